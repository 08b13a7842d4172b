-- The answers of certifying a directive are what is said of them.
use Rattle.std.specs.Prelude.{slice_get}
use Rattle.std.specs.List.{All}
use Rattle.std.proofs.Common.{◌≡◌, ◌≢◌, ℕ, zero, suc, ◌+◌, ◌-◌, ◌*◌, ◌^◌, ◌<◌, ◌≤◌, Some, List, []}
use Rattle.std.proofs.Common.{◌∷◌, ◌++◌, length, take, drop, refl, sym, ap, subst, ◌∙◌, arith}
use Rattle.std.proofs.lemmas.List.{length-append, length-map}
use Rattle.std.proofs.lemmas.List.Elements.{All-nil, All-cons}
use Rattle.pct_ask.specs.declared.Deal.{Deal}
use Rattle.pct_ask.specs.declared.event.Event.{Event}
use Rattle.pct_ask.specs.declared.verdict.Verdict.{Verdict}
use Rattle.pct_ask.specs.Bodies.{Pending}
use Rattle.rank_now.specs.declared.moment.Moment.{Moment}
use Rattle.turn_book.specs.Posts.{schedule_of}
use Rattle.worker_run.specs.Run.{run, directed_run}
use Rattle.directive.specs.declared.directive.Directive.{Directive}
use Rattle.choices.specs.Points.{point_of_moment, points_of}
use Rattle.choices.specs.Orders.{factorial, low_orders}
use Rattle.choices.specs.PointLists.{IsWithin, pointlists}
use Rattle.choices.specs.Counting.{hits_under}
use Rattle.directive_run.specs.Guarantees.{IsLed}
use Rattle.directive_run.specs.Certifying.{IsPointed, AreOrderRows, IsCertified, IsFirstOther}
use Rattle.directive_run.specs.Certifying.{IsRefuted}
use Rattle.directive_run.specs.Certifying.{IsTooLongUnder}
use Rattle.directive_run.specs.Tested.{DirectedSetup, IsOther, Tells}
use Rattle.directive_run.specs.declared.judging.Tested.{Tested}
use Rattle.directive_run.specs.declared.judging.Tested.TheVariants.{Led, Other, TooLong}
use Rattle.directive_run.specs.declared.answers.CertifyRow.{CertifyRow}
use Rattle.directive_run.proofs.laws.ExposedPoints.{exposed-run, points-within}
use Rattle.choices.proofs.laws.OrderLists.{IsLowOrder, low-orders-all, low-order-listed}
use Rattle.choices.proofs.laws.OrderLists.{length-low-orders}
use Rattle.choices.proofs.laws.ListedOnce.{listed-all}
use Rattle.choices.proofs.laws.Counts.{order-hits, count-holds}

-- ---- one order

pub pointed : (deal : Deal) (bodies : List Pending) (order : List ℕ) (lent moments : List Moment)
    (verdict last : Verdict) (steps limit : ℕ) (made : List Event) (points : List ℕ)
    → lent ≡ moments → directed_run deal bodies order lent limit ≡ Some (made, last)
    → last ≡ verdict → length made ≤ steps → points ≡ points_of (schedule_of made) steps lent
    → IsPointed deal bodies order moments verdict steps limit points
pointed deal bodies order lent moments verdict last steps limit made points same is ends short
    as_points =
    let room : length (schedule_of made) ≤ steps =
    omega (arith, length-map made (λ (e : Event). e.thread)) in
    let runs = exposed-run deal bodies order lent limit steps made last room is in
    record {
      made = made;
      is_directed =
          ap (λ es. directed_run deal bodies order es limit) (sym same)
          ∙ (is ∙ ap (λ v. Some (made, v)) ends);
      short = short;
      points_are = as_points ∙ ap (points_of (schedule_of made) steps) same;
      is_run =
          ap (λ ps. run deal bodies order ps limit) as_points
          ∙ (runs ∙ ap (λ v. Some (made, v)) ends);
    }

pub other : (deal : Deal) (bodies : List Pending) (order : List ℕ) (lent moments : List Moment)
    (verdict last : Verdict) (steps limit : ℕ) (made : List Event) → lent ≡ moments
    → directed_run deal bodies order lent limit ≡ Some (made, last) → last ≢ verdict
    → length made ≤ steps → IsOther deal bodies order moments verdict steps limit last
other deal bodies order lent moments verdict last steps limit made same is apart short =
    record {
      made = made;
      is_directed = ap (λ es. directed_run deal bodies order es limit) (sym same)
          ∙ is;
      short = short;
      apart = apart;
    }

-- ---- the order at a place is an order

pub low-at : (threads low place : ℕ) (order : List ℕ) → low < threads
    → slice_get (low_orders threads low) place ≡ Some order → IsLowOrder threads low order
low-at threads low place order within at =
    listed-all (IsLowOrder threads low) (low_orders threads low) place order
    (low-orders-all threads low within) at

pub take-next : {X : Type 0} (xs : List X) (k : ℕ) (x : X) → slice_get xs k ≡ Some x
    → take (k + 1) xs ≡ take k xs ++ x ∷ []
take-next xs k x at = ap (λ n. take n xs) (let e : k + 1 ≡ suc k = omega arith in e) ∙ next xs k at
  where
    next : (ys : List _) (k : ℕ) → slice_get ys k ≡ Some x → take (suc k) ys ≡ take k ys ++ x ∷ []
    next [] k at = absurd cc
    next (y ∷ ys) zero at = ap (λ z. z ∷ []) (let same : y ≡ x = cc in same)
    next (y ∷ ys) (suc k) at = ap (λ z. y ∷ z) (next ys k at)

pub take-whole : {X : Type 0} (xs : List X) (k : ℕ) → length xs ≤ k → take k xs ≡ xs
take-whole [] zero long = refl
take-whole [] (suc k) long = refl
take-whole (x ∷ xs) zero long = absurd (omega arith)
take-whole (x ∷ xs) (suc k) long = ap (λ z. x ∷ z) (take-whole xs k (omega arith))

-- ---- the rows of the orders so far

module _ (deal : Deal) (bodies : List Pending) (directive : Directive) (steps limit : ℕ) where
  abbrev Rows : List (List ℕ) → List CertifyRow → Type 0
  Rows orders rows = AreOrderRows deal bodies directive steps limit orders rows

  abbrev Pointed : List ℕ → List ℕ → Type 0
  Pointed order points =
      IsPointed deal bodies order directive.events directive.verdict steps limit points

  abbrev IsLedHere : List ℕ → Type 0
  IsLedHere order = IsLed deal bodies order directive.events directive.verdict steps limit

  pub rows-push : (orders : List (List ℕ)) (rows : List CertifyRow) (order : List ℕ)
      (row : CertifyRow) → Rows orders rows → row.order ≡ order → Pointed order row.points
      → Rows (orders ++ order ∷ []) (rows ++ row ∷ [])
  rows-push [] [] order row before same is = (same, is, tt)
  rows-push [] (r ∷ rows) order row before same is = absurd before
  rows-push (o ∷ orders) [] order row before same is = absurd before
  rows-push (o ∷ orders) (r ∷ rows) order row before same is =
      (before.0, before.1, rows-push orders rows order row before.2 same is)

  pointed-led : (order points : List ℕ) → Pointed order points → IsLedHere order
  pointed-led order points is = record {
    made = is.made;
    directed_is = is.is_directed;
    short = is.short;
  }

  -- each order that has a row is led to the verdict
  pub row-led : (orders : List (List ℕ)) (rows : List CertifyRow) (k : ℕ) (order : List ℕ)
      → Rows orders rows → slice_get orders k ≡ Some order → IsLedHere order
  row-led [] rows k order are at = absurd cc
  row-led (o ∷ orders) [] k order are at = absurd are
  row-led (o ∷ orders) (r ∷ rows) zero order are at =
      subst IsLedHere (let same : o ≡ order = cc in same) (pointed-led o r.points are.1)
  row-led (o ∷ orders) (r ∷ rows) (suc k) order are at = row-led orders rows k order are.2 at

  pub front-led : (orders : List (List ℕ)) (rows : List CertifyRow) → Rows orders rows
      → (order : List ℕ) (front back : List (List ℕ)) → orders ≡ front ++ order ∷ back
      → IsLedHere order
  front-led orders rows are order front back cut =
      row-led orders rows (length front) order are
      (ap (λ os. slice_get os (length front)) cut ∙ at front)
    where
      at : (front : List (List ℕ)) → slice_get (front ++ order ∷ back) (length front) ≡ Some order
      at [] = refl
      at (o ∷ front) = at front

  abbrev Hit : List ℕ → Type 0
  Hit order =
      1 ≤ hits_under (λ order points. run deal bodies order points limit) order
      (pointlists steps (length directive.events)) directive.verdict

  -- and is led to it by some listed points
  pub rows-hit : (orders : List (List ℕ)) (rows : List CertifyRow) → 1 ≤ steps → Rows orders rows
      → All Hit orders
  rows-hit [] rows some are = All-nil Hit
  rows-hit (o ∷ orders) [] some are = absurd are
  rows-hit (o ∷ orders) (r ∷ rows) some are =
      let is = are.1 in
      let room : length (schedule_of is.made) ≤ steps =
      omega (arith, is.short, length-map is.made (λ (e : Event). e.thread)) in
      let W : List ℕ → Type 0 = All (IsWithin steps) in
      let within = subst W (sym is.points_are)
      (points-within (schedule_of is.made) steps directive.events room some) in
      let long : length r.points ≡ length directive.events =
      ap length is.points_are ∙ length-map directive.events
      (point_of_moment (schedule_of is.made) steps) in
      All-cons Hit o orders (order-hits (λ order points. run deal bodies order points limit) o
      r.points is.made directive.verdict steps (length directive.events) long within is.is_run)
      (rows-hit orders rows some are.2)

  -- ---- the answers

  pub certified : (low : directive.low < deal.threads) (rows : List CertifyRow) (bound : ℕ)
      → 1 ≤ steps → deal.threads ≤ 7 → Rows (low_orders deal.threads directive.low) rows
      → bound ≡ deal.threads * steps ^ length directive.events
      → IsCertified deal bodies directive steps limit bound rows
  certified low rows bound some few are is = record {
    few = few;
    guarantees = λ order ordered whole last.
        let at = low-order-listed deal.threads directive.low order low
        (record { is_order = ordered; whole = whole; last = last }) in
        row-led (low_orders deal.threads directive.low) rows at.0 order are at.2;
    bound_is = is;
    rows_are = are;
    counted =
        count-holds (λ order points. run deal bodies order points limit) deal.threads directive.low
        steps (length directive.events) bound directive.verdict low
        (rows-hit (low_orders deal.threads directive.low) rows some are) is;
  }

  -- the order at a place, with those before it led
  pub first-other : (rows : List CertifyRow) (place : ℕ) (order : List ℕ) → deal.threads ≤ 7
      → slice_get (low_orders deal.threads directive.low) place ≡ Some order
      → Rows (take place (low_orders deal.threads directive.low)) rows
      → IsFirstOther deal bodies directive steps limit order
  first-other rows place order few at are = record {
    few = few;
    before = take place (low_orders deal.threads directive.low);
    after = drop (suc place) (low_orders deal.threads directive.low);
    listed = cut (low_orders deal.threads directive.low) place at;
    led = front-led (take place (low_orders deal.threads directive.low)) rows are;
  }
    where
      cut : (orders : List (List ℕ)) (k : ℕ) → slice_get orders k ≡ Some order
          → orders ≡ take k orders ++ order ∷ drop (suc k) orders
      cut [] k at = absurd cc
      cut (o ∷ orders) zero at = ap (λ z. z ∷ orders) (let same : o ≡ order = cc in same)
      cut (o ∷ orders) (suc k) at = ap (λ z. o ∷ z) (cut orders k at)

  abbrev all : List (List ℕ)
  all = low_orders deal.threads directive.low

  abbrev setup : DirectedSetup
  setup = record {
    deal = deal;
    bodies = bodies;
    directive = directive;
    steps = steps;
    limit = limit;
  }

  abbrev TellsHere : List ℕ → Tested → Type 0
  TellsHere order = Tells setup order

  pub refuted : (rows : List CertifyRow) (order : List ℕ) (tested : Tested) (verdict : Verdict)
      → directive.low < deal.threads → deal.threads ≤ 7
      → slice_get all (length rows) ≡ Some order → Rows (take (length rows) all) rows
      → TellsHere order tested → tested ≡ Other verdict
      → IsRefuted deal bodies directive steps limit order verdict
  refuted rows order tested verdict low few at are tells is =
      let place = length rows in
      let found = subst (TellsHere order) is tells in
      let sound = low-at deal.threads directive.low place order low at in
      record {
        first = first-other rows place order few at are;
        is_order = sound.is_order;
        whole = sound.whole;
        last = sound.last;
        made = found.made;
        is_directed = found.is_directed;
        short = found.short;
        apart = found.apart;
      }

  pub too-long-under : (rows : List CertifyRow) (order : List ℕ) (tested : Tested) (many : ℕ)
      → directive.low < deal.threads → deal.threads ≤ 7
      → slice_get all (length rows) ≡ Some order → Rows (take (length rows) all) rows
      → TellsHere order tested → tested ≡ TooLong many
      → IsTooLongUnder deal bodies directive steps limit order many
  too-long-under rows order tested many low few at are tells is =
      let place = length rows in
      let sound = low-at deal.threads directive.low place order low at in
      record {
        first = first-other rows place order few at are;
        is_order = sound.is_order;
        whole = sound.whole;
        last = sound.last;
        too_long = subst (TellsHere order) is tells;
      }

  -- one more row
  pub next-row : (rows after : List CertifyRow) (order points : List ℕ) (tested : Tested)
      → slice_get all (length rows) ≡ Some order → Rows (take (length rows) all) rows
      → TellsHere order tested → tested ≡ Led points
      → after ≡ rows ++ record { order = order; points = points } ∷ []
      → Rows (take (length after) all) after
  next-row rows after order points tested at are tells is pushed =
      let place = length rows in
      let row : CertifyRow = record { order = order; points = points } in
      let longer : length after ≡ place + 1 = ap length pushed ∙ length-append rows (row ∷ []) in
      let N : ℕ → Type 0 = λ n. Rows (take n all) after in
      let L : List (List ℕ) → Type 0 = λ os. Rows os after in
      let A : List CertifyRow → Type 0 = λ rs. Rows (take place all ++ order ∷ []) rs in
      let led = subst (TellsHere order) is tells in
      let more = rows-push (take place all) rows order row are refl led in
      let next = sym (take-next all place order at) in
      subst N (sym longer) (subst L next (subst A (sym pushed) more))

  pub all-rows : (rows : List CertifyRow) (place : ℕ) → directive.low < deal.threads
      → factorial (deal.threads - 1) ≤ place → Rows (take place all) rows → Rows all rows
  all-rows rows place low end are =
      let L : List (List ℕ) → Type 0 = λ os. Rows os rows in
      let long = length-low-orders deal.threads directive.low low in
      subst L (take-whole all place (omega (arith, long))) are
