-- What exposing and certifying a directive may answer is one thing, and certifying answers yes
-- exactly where the directive
-- guarantees its verdict.
use Rattle.std.proofs.Common.{◌≡◌, ◌⊎◌, ℕ, ◌≤◌, Option, Some, List, [], ◌∷◌, ◌++◌, length, inl, inr}
use Rattle.std.proofs.Common.{refl, sym, ap, subst, ◌∙◌, arith}
use Rattle.pct_ask.specs.declared.Deal.{Deal}
use Rattle.pct_ask.specs.declared.event.Event.{Event}
use Rattle.pct_ask.specs.declared.verdict.Verdict.{Verdict}
use Rattle.pct_ask.specs.declared.verdict.Outcome.TheVariants.{Verdict as Ends}
use Rattle.pct_ask.specs.Bodies.{Pending}
use Rattle.rank_now.specs.declared.moment.Moment.{Moment}
use Rattle.turn_book.specs.Posts.{schedule_of}
use Rattle.worker_run.specs.Run.{Run}
use Rattle.worker_run.specs.declared.played.Played.{Played}
use Rattle.directive.specs.declared.directive.Directive.{Directive}
use Rattle.choices.specs.Points.{points_of}
use Rattle.directive_run.specs.Exposing.{Exposes}
use Rattle.directive_run.specs.Guarantees.{IsLed, Guarantees}
use Rattle.choices.specs.Orders.{low_orders}
use Rattle.directive_run.specs.Certifying.{IsPointed, AreOrderRows, IsCertified, IsFirstOther}
use Rattle.directive_run.specs.Certifying.{IsRefuted}
use Rattle.directive_run.specs.Certifying.{IsTooLongUnder, Certifies, IsYes}
use Rattle.directive_run.specs.declared.answers.CertifyRow.{CertifyRow}
use Rattle.directive_run.specs.declared.answers.Exposed.{Exposed}
use Rattle.directive_run.specs.declared.answers.Exposed.TheVariants as exposed
use Rattle.directive_run.specs.declared.answers.Certified.{Certified}
use Rattle.directive_run.specs.declared.answers.Certified.TheVariants.{Yes, Refuted, TooLong}
use Rattle.directive_run.specs.declared.answers.Certified.TheVariants.{TooManyThreads}

run-same : (r : Option Run) (a b : List Event) (v w : Verdict) → r ≡ Some (a, v) → r ≡ Some (b, w)
    → (a ≡ b) × (v ≡ w)
run-same r a b v w one two =
    let whole : ◌≡◌ {A = Option Run} (Some (a, v)) (Some (b, w)) = sym one ∙ two in
    let pair : ◌≡◌ {A = Run} (a, v) (b, w) = cc in
    (ap (λ (r : Run). r.0) pair, ap (λ (r : Run). r.1) pair)

played-same : (one two : Played) → one.events ≡ two.events → one.outcome ≡ two.outcome → one ≡ two
played-same one two e o = λ i. record { events = e i; outcome = o i }

row-same : (one two : CertifyRow) → one.order ≡ two.order → one.points ≡ two.points → one ≡ two
row-same one two e p = λ i. record { order = e i; points = p i }

-- ---- one order

pub exposed-once : (deal : Deal) (bodies : List Pending) (order : List ℕ) (moments : List Moment)
    (steps limit : ℕ) (a b : Exposed) → Exposes deal bodies order moments steps limit a
    → Exposes deal bodies order moments steps limit b → a ≡ b
exposed-once deal bodies order moments steps limit (exposed.Points p played)
    (exposed.Points q other) one two =
    let same = run-same _ played.events other.events one.verdict two.verdict one.is_directed
    two.is_directed in
    let points : p ≡ q = one.points_are
    ∙ (ap (λ es. points_of (schedule_of es) steps moments) same.0 ∙ sym two.points_are) in
    let runs = played-same played other same.0 (one.ends ∙ (ap Ends same.1 ∙ sym two.ends)) in
    λ i. exposed.Points (points i) (runs i)
exposed-once deal bodies order moments steps limit (exposed.Points p played) (exposed.TooLong many)
    one two =
    let same = run-same _ played.events two.made one.verdict two.verdict one.is_directed
    two.is_directed in
    absurd (omega (arith, one.short, two.number, two.long, ap length same.0))
exposed-once deal bodies order moments steps limit (exposed.TooLong many) (exposed.Points q other)
    one two =
    let same = run-same _ other.events one.made two.verdict one.verdict two.is_directed
    one.is_directed in
    absurd (omega (arith, two.short, one.number, one.long, ap length same.0))
exposed-once deal bodies order moments steps limit (exposed.TooLong many) (exposed.TooLong more) one
    two =
    let same = run-same _ one.made two.made one.verdict two.verdict one.is_directed
    two.is_directed in
    ap exposed.TooLong (one.number ∙ (ap length same.0 ∙ sym two.number))

-- ---- all orders

-- two items of a list: they are the same, or one stands before the other
two-places : {X : Type 0} (whole before after before' after' : List X) (x y : X)
    → whole ≡ before ++ x ∷ after → whole ≡ before' ++ y ∷ after'
    → (x ≡ y) ⊎ (((front : List X) × (back : List X) × (before' ≡ front ++ x ∷ back))
    ⊎ ((front : List X) × (back : List X) × (before ≡ front ++ y ∷ back)))
two-places whole [] after [] after' x y one two =
    inl (let both : x ∷ after ≡ y ∷ after' = sym one ∙ two in cc)
two-places whole [] after (z ∷ before') after' x y one two =
    inr (inl (
      [],
      before',
      (let both : x ∷ after ≡ z ∷ (before' ++ y ∷ after') = sym one ∙ two in
          let same : z ≡ x = cc in ap (λ w. w ∷ before') same),
    ))
two-places whole (z ∷ before) after [] after' x y one two =
    inr (inr (
      [],
      before,
      (let both : z ∷ (before ++ x ∷ after) ≡ y ∷ after' = sym one ∙ two in
          let same : z ≡ y = cc in ap (λ w. w ∷ before) same),
    ))
two-places whole (z ∷ before) after (u ∷ before') after' x y one two =
    let both : z ∷ (before ++ x ∷ after) ≡ u ∷ (before' ++ y ∷ after') = sym one ∙ two in
    let rest : before ++ x ∷ after ≡ before' ++ y ∷ after' = cc in
    elim (two-places (before ++ x ∷ after) before after before' after' x y refl rest) [
      | inl same ↦ inl same
      | inr other ↦ elim other [
        | inl a ↦ inr (inl (u ∷ a.0, a.1, ap (λ w. u ∷ w) a.2))
        | inr b ↦ inr (inr (z ∷ b.0, b.1, ap (λ w. z ∷ w) b.2))
      ]
    ]

module _ (deal : Deal) (bodies : List Pending) (directive : Directive) (steps limit : ℕ) where
  abbrev Led : List ℕ → Type 0
  Led order = IsLed deal bodies order directive.events directive.verdict steps limit

  first-once : (x y : List ℕ) → IsFirstOther deal bodies directive steps limit x
      → IsFirstOther deal bodies directive steps limit y → ¬ Led x → ¬ Led y → x ≡ y
  first-once x y one two not_x not_y =
      elim (two-places (low_orders deal.threads directive.low) one.before one.after two.before
      two.after x y one.listed two.listed) [
        | inl same ↦ same
        | inr other ↦ elim other [
          | inl a ↦ absurd (not_x (two.led x a.0 a.1 a.2))
          | inr b ↦ absurd (not_y (one.led y b.0 b.1 b.2))
        ]
      ]

  refuted-not : (order : List ℕ) (verdict : Verdict)
      → IsRefuted deal bodies directive steps limit order verdict → ¬ Led order
  refuted-not order verdict is =
      λ led. is.apart (run-same _ is.made led.made verdict directive.verdict is.is_directed
      led.directed_is).1

  long-not : (order : List ℕ) (many : ℕ)
      → IsTooLongUnder deal bodies directive steps limit order many → ¬ Led order
  long-not order many is = λ led.
      let same = run-same _ is.too_long.made led.made is.too_long.verdict directive.verdict
      is.too_long.is_directed led.directed_is in
      omega (arith, is.too_long.number, is.too_long.long, led.short, ap length same.0)

  pointed-once : (order p q : List ℕ)
      → IsPointed deal bodies order directive.events directive.verdict steps limit p
      → IsPointed deal bodies order directive.events directive.verdict steps limit q → p ≡ q
  pointed-once order p q one two =
      let same = run-same _ one.made two.made directive.verdict directive.verdict one.is_directed
      two.is_directed in
      one.points_are ∙ (ap (λ es. points_of (schedule_of es) steps directive.events) same.0
      ∙ sym two.points_are)

  rows-once : (orders : List (List ℕ)) (rows other : List CertifyRow)
      → AreOrderRows deal bodies directive steps limit orders rows
      → AreOrderRows deal bodies directive steps limit orders other → rows ≡ other
  rows-once [] [] [] one two = refl
  rows-once [] [] (r ∷ rs) one two = absurd two
  rows-once [] (r ∷ rs) other one two = absurd one
  rows-once (o ∷ orders) [] other one two = absurd one
  rows-once (o ∷ orders) (r ∷ rs) [] one two = absurd two
  rows-once (o ∷ orders) (r ∷ rs) (q ∷ qs) one two =
      let here = row-same r q (one.0 ∙ sym two.0) (pointed-once o r.points q.points one.1 two.1) in
      let rest = rows-once orders rs qs one.2 two.2 in
      λ i. here i ∷ rest i

  not-yes : (order : List ℕ) (bound : ℕ) (rows : List CertifyRow)
      → IsCertified deal bodies directive steps limit bound rows
      → ((yes : Guarantees deal bodies directive.low directive.events directive.verdict steps limit)
      → Led order) → ¬ Led order → ⊥
  not-yes order bound rows is led not_led = not_led (led is.guarantees)

  pub certified-once : (a b : Certified) → Certifies deal bodies directive steps limit a
      → Certifies deal bodies directive steps limit b → a ≡ b
  certified-once (Yes bound rows) (Yes more other) one two =
      let bounds : bound ≡ more = one.bound_is ∙ sym two.bound_is in
      let all = rows-once (low_orders deal.threads directive.low) rows other one.rows_are
      two.rows_are in
      λ i. Yes (bounds i) (all i)
  certified-once (Yes bound rows) (Refuted order verdict) one two =
      absurd (not-yes order bound rows one (λ yes. yes order two.is_order two.whole two.last)
      (refuted-not order verdict two))
  certified-once (Yes bound rows) (TooLong order many) one two =
      absurd (not-yes order bound rows one (λ yes. yes order two.is_order two.whole two.last)
      (long-not order many two))
  certified-once (Yes bound rows) (TooManyThreads threads) one two =
      absurd (omega (arith, one.few, two.0, two.1))
  certified-once (Refuted order verdict) (Yes bound rows) one two =
      absurd (not-yes order bound rows two (λ yes. yes order one.is_order one.whole one.last)
      (refuted-not order verdict one))
  certified-once (Refuted order verdict) (Refuted other last) one two =
      let same = first-once order other one.first two.first (refuted-not order verdict one)
      (refuted-not other last two) in
      let R : List ℕ → Type 0 = λ o. IsRefuted deal bodies directive steps limit o verdict in
      let moved = subst R same one in
      let verdicts = (run-same _ moved.made two.made verdict last moved.is_directed
      two.is_directed).1 in
      λ i. Refuted (same i) (verdicts i)
  certified-once (Refuted order verdict) (TooLong other many) one two =
      let same = first-once order other one.first two.first (refuted-not order verdict one)
      (long-not other many two) in
      let R : List ℕ → Type 0 = λ o. IsRefuted deal bodies directive steps limit o verdict in
      let moved = subst R same one in
      let runs = run-same _ moved.made two.too_long.made verdict two.too_long.verdict
      moved.is_directed two.too_long.is_directed in
      absurd (omega (arith, moved.short, two.too_long.number, two.too_long.long, ap length runs.0))
  certified-once (Refuted order verdict) (TooManyThreads threads) one two =
      absurd (omega (arith, one.first.few, two.0, two.1))
  certified-once (TooLong order many) (Yes bound rows) one two =
      absurd (not-yes order bound rows two (λ yes. yes order one.is_order one.whole one.last)
      (long-not order many one))
  certified-once (TooLong order many) (Refuted other verdict) one two =
      let same = first-once order other one.first two.first (long-not order many one)
      (refuted-not other verdict two) in
      let R : List ℕ → Type 0 = λ o. IsTooLongUnder deal bodies directive steps limit o many in
      let moved = subst R same one in
      let runs = run-same _ two.made moved.too_long.made verdict moved.too_long.verdict
      two.is_directed moved.too_long.is_directed in
      absurd (omega (
        arith,
        two.short,
        moved.too_long.number,
        moved.too_long.long,
        ap length runs.0,
      ))
  certified-once (TooLong order many) (TooLong other more) one two =
      let same = first-once order other one.first two.first (long-not order many one)
      (long-not other more two) in
      let R : List ℕ → Type 0 = λ o. IsTooLongUnder deal bodies directive steps limit o many in
      let moved = subst R same one in
      let runs = run-same _ moved.too_long.made two.too_long.made moved.too_long.verdict
      two.too_long.verdict moved.too_long.is_directed two.too_long.is_directed in
      let numbers : many ≡ more = moved.too_long.number
      ∙ (ap length runs.0 ∙ sym two.too_long.number) in
      λ i. TooLong (same i) (numbers i)
  certified-once (TooLong order many) (TooManyThreads threads) one two =
      absurd (omega (arith, one.first.few, two.0, two.1))
  certified-once (TooManyThreads threads) (Yes bound rows) one two =
      absurd (omega (arith, two.few, one.0, one.1))
  certified-once (TooManyThreads threads) (Refuted order verdict) one two =
      absurd (omega (arith, two.first.few, one.0, one.1))
  certified-once (TooManyThreads threads) (TooLong order many) one two =
      absurd (omega (arith, two.first.few, one.0, one.1))
  certified-once (TooManyThreads threads) (TooManyThreads other) one two =
      ap TooManyThreads (one.0 ∙ sym two.0)

  -- where the directive guarantees its verdict, nothing else is answered
  pub guaranteed-yes : (a : Certified) → deal.threads ≤ 7
      → Certifies deal bodies directive steps limit a
      → Guarantees deal bodies directive.low directive.events directive.verdict steps limit
      → IsYes a
  guaranteed-yes (Yes bound rows) few is holds = tt
  guaranteed-yes (Refuted order verdict) few is holds =
      refuted-not order verdict is (holds order is.is_order is.whole is.last)
  guaranteed-yes (TooLong order many) few is holds =
      long-not order many is (holds order is.is_order is.whole is.last)
  guaranteed-yes (TooManyThreads threads) few is holds = omega (arith, few, is.0, is.1)

  -- and where yes is answered it does
  pub yes-guaranteed : (a : Certified) → Certifies deal bodies directive steps limit a → IsYes a
      → Guarantees deal bodies directive.low directive.events directive.verdict steps limit
  yes-guaranteed (Yes bound rows) is says = is.guarantees
  yes-guaranteed (Refuted order verdict) is says = absurd says
  yes-guaranteed (TooLong order many) is says = absurd says
  yes-guaranteed (TooManyThreads threads) is says = absurd says
