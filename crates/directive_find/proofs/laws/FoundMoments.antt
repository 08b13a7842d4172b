-- The moments of a run by an order and points: fewer than the points, and their indices differ from
-- the points', but they
-- come at the same steps and in the same order. So the directed run of these moments is the run.
use Rattle.std.proofs.Common.{◌≡◌, ℕ, zero, suc, ◌+◌, ◌-◌, ◌<◌, ◌≤◌, Bool, true, false, cond, not}
use Rattle.std.proofs.Common.{◌&&◌, ◌||◌, nat_lt, leb, eqb, Some, List, [], ◌∷◌, ◌++◌, length}
use Rattle.std.proofs.Common.{get_or, refl, sym, ap, ◌∙◌, arith, inl, inr, eq-eqb, ne_eqb, eqb-true}
use Rattle.std.proofs.Common.{add-one}
use Rattle.std.specs.List.{list_any}
use Rattle.std.proofs.lemmas.Bool.{cases_eq, and_parts}
use Rattle.std.proofs.lemmas.Bool.Decides.{nat_tests}
use Rattle.std.proofs.lemmas.List.{length-append}
use Rattle.pct_ask.specs.declared.Deal.{Deal}
use Rattle.pct_ask.specs.declared.event.Event.{Event}
use Rattle.pct_ask.specs.declared.verdict.Verdict.{Verdict}
use Rattle.pct_ask.specs.Bodies.{Pending}
use Rattle.rank_now.specs.declared.moment.Moment.{Moment}
use Rattle.rank_now.specs.Order.{IsOrder}
use Rattle.rank_now.specs.Positions.{greatest_where, passes_at, last_position}
use Rattle.rank_now.specs.Rank.{index_of_point, own_steps, is_moment, index_of_moment, rank}
use Rattle.rank_now.specs.Rank.{rank_by_moments}
use Rattle.rank_now.proofs.laws.Positions.{greatest-le, passes_at-read}
use Rattle.turn_book.specs.Posts.{schedule_of}
use Rattle.worker_run.specs.Run.{run, directed_run}
use Rattle.worker_run.proofs.laws.SameRuns.{same-from}
use Rattle.worker_run.proofs.laws.RanksAlike.{GivenAlike, rank_by-alike}
use Rattle.worker_run.proofs.laws.Moments.{own-step, moment-once, is_moment-append}
use Rattle.choices.specs.Moments.{moment_at, is_kept, moments_of}

-- ---- the greatest position in a list with one more item before the others
module _ {X : Type 0} (test : X → Bool) (x : X) (xs : List X) where
  abbrev more : ℕ → ℕ
  more k = cond (nat_lt 0 k) (suc k) (cond (test x) 1 0)

  greatest-cons-by : (n : ℕ) (b : Bool) → passes_at test xs (suc n) ≡ b
      → greatest_where (passes_at test (x ∷ xs)) (suc n)
      ≡ more (greatest_where (passes_at test xs) n)
      → cond b (suc (suc n)) (greatest_where (passes_at test (x ∷ xs)) (suc n))
      ≡ more (cond b (suc n) (greatest_where (passes_at test xs) n))
  greatest-cons-by n true is rest =
      sym (ap (λ b. cond b (suc (suc n)) (cond (test x) 1 0))
      (let some : nat_lt 0 (suc n) ≡ true = grind (arith, nat_tests) in some))
  greatest-cons-by n false is rest = rest

  greatest-cons : (n : ℕ) → greatest_where (passes_at test (x ∷ xs)) (suc n)
      ≡ more (greatest_where (passes_at test xs) n)
  greatest-cons zero = refl
  greatest-cons (suc n) = greatest-cons-by n (passes_at test xs (suc n)) refl (greatest-cons n)

  position-cons : last_position test (x ∷ xs) ≡ more (last_position test xs)
  position-cons = greatest-cons (length xs)

  position-later : 0 < last_position test xs
      → last_position test (x ∷ xs) ≡ suc (last_position test xs)
  position-later some =
      position-cons ∙ ap (λ b. cond b (suc (last_position test xs)) (cond (test x) 1 0))
      (let is : nat_lt 0 (last_position test xs) ≡ true = grind (arith, nat_tests) in is)

  position-here : last_position test xs ≡ 0 → last_position test (x ∷ xs) ≡ cond (test x) 1 0
  position-here none = position-cons ∙ ap more none

-- where there is no position, no item passes the test
none-by : {X : Type 0} (test : X → Bool) (x : X) (xs : List X) (k : ℕ) → last_position test xs ≡ k
    → (b : Bool) → test x ≡ b → last_position test (x ∷ xs) ≡ 0
    → (last_position test xs ≡ 0 → list_any test xs ≡ false) → list_any test (x ∷ xs) ≡ false
none-by test x xs zero at true is none rest =
    absurd (let one : 1 ≡ 0 = sym (ap (λ b. cond b 1 0) is) ∙ sym (position-here test x xs at)
    ∙ none in omega arith)
none-by test x xs zero at false is none rest = ap (λ b. b || list_any test xs) is ∙ rest at
none-by test x xs (suc k) at b is none rest =
    absurd (let some : 0 < last_position test xs = omega arith in
    let later = position-later test x xs some in omega (arith, later))

none-later : {X : Type 0} (test : X → Bool) (xs : List X) → last_position test xs ≡ 0
    → list_any test xs ≡ false
none-later test [] none = refl
none-later test (x ∷ xs) none =
    none-by test x xs (last_position test xs) refl (test x) refl none (none-later test xs)

-- ---- the two indices of a step, in a list with one more point
data View (kept i j i' j' : ℕ) : Type 0 where
  Later : 0 < i → 0 < j → i' ≡ suc i → j' ≡ j + kept → View kept i j i' j'
  Here : i' ≡ 1 → j' ≡ 1 → kept ≡ 1 → View kept i j i' j'
  Nowhere : i' ≡ 0 → j' ≡ 0 → View kept i j i' j'

view-some : (kept i j i' j' : ℕ) → View kept i j i' j' → nat_lt 0 i' ≡ nat_lt 0 j'
view-some kept i j i' j' (Later p q e f) = grind (arith, nat_tests)
view-some kept i j i' j' (Here e f g) = grind (arith, nat_tests)
view-some kept i j i' j' (Nowhere e f) = grind (arith, nat_tests)

leb-suc : (a b c d k : ℕ) → leb a b ≡ leb c d → leb (suc a) (suc b) ≡ leb (c + k) (d + k)
leb-suc a b c d k e = grind (arith, nat_tests)

leb-one : (a b c d : ℕ) → a ≡ 1 → b ≡ 1 → c ≡ 1 → d ≡ 1 → leb a b ≡ leb c d
leb-one a b c d p q r s = grind (arith, nat_tests)

leb-yes : (a b c d : ℕ) → a ≤ b → c ≤ d → leb a b ≡ leb c d
leb-yes a b c d p q = grind (arith, nat_tests)

leb-no : (a b c d : ℕ) → b < a → d < c → leb a b ≡ leb c d
leb-no a b c d p q = grind (arith, nat_tests)

view-order : (kept i j i' j' m n m' n' : ℕ) → View kept i j i' j' → View kept m n m' n'
    → (0 < i → 0 < m → leb i m ≡ leb j n) → 0 < i' → 0 < m' → leb i' m' ≡ leb j' n'
view-order kept i j i' j' m n m' n' (Later a b c d) (Later e f g h) rest p q =
    (λ x. leb (c x) (g x)) ∙ leb-suc i m j n kept (rest a e) ∙ (λ x. leb (sym d x) (sym h x))
view-order kept i j i' j' m n m' n' (Later a b c d) (Here e f g) rest p q =
    leb-no i' m' j' n' (omega arith) (omega arith)
view-order kept i j i' j' m n m' n' (Here a b c) (Later e f g h) rest p q =
    leb-yes i' m' j' n' (omega arith) (omega arith)
view-order kept i j i' j' m n m' n' (Here a b c) (Here e f g) rest p q = leb-one i' m' j' n' a e b f
view-order kept i j i' j' m n m' n' (Nowhere a b) v rest p q = absurd (omega arith)
view-order kept i j i' j' m n m' n' (Later a b c d) (Nowhere e f) rest p q = absurd (omega arith)
view-order kept i j i' j' m n m' n' (Here a b c) (Nowhere e f) rest p q = absurd (omega arith)

-- ---- the indices by points and by moments, where a moment is the step that its point is
module _ (schedule : List ℕ) (steps : ℕ) (test : ℕ → Moment → Bool)
    (short : steps ≤ length schedule)
    (marks : (point step : ℕ) → point ≤ length schedule → 0 < step → step ≤ steps
    → test step (moment_at schedule point) ≡ eqb point step) where
  abbrev by_points : List ℕ → ℕ → ℕ
  by_points points step = index_of_point points step

  abbrev by_moments : List ℕ → ℕ → ℕ
  by_moments points step = last_position (test step) (moments_of schedule points)

  record Alike (points : List ℕ) : Type 0 where
    pub some : (step : ℕ) → 0 < step → step ≤ steps
        → nat_lt 0 (by_points points step) ≡ nat_lt 0 (by_moments points step)
    pub order : (first second : ℕ) → 0 < first → first ≤ steps → 0 < second → second ≤ steps
        → 0 < by_points points first → 0 < by_points points second
        → leb (by_points points first) (by_points points second)
        ≡ leb (by_moments points first) (by_moments points second)

  module _ (point : ℕ) (later : List ℕ) (step : ℕ) (low : 0 < step) (high : step ≤ steps) where
    abbrev i : ℕ
    i = by_points later step

    abbrev j : ℕ
    j = by_moments later step

    abbrev Sees : Bool → Type 0
    Sees b =
        View (cond b 1 0) i j (by_points (point ∷ later) step) (by_moments (point ∷ later) step)

    moments-is : (b : Bool) → is_kept schedule point later ≡ b
        → by_moments (point ∷ later) step
        ≡ last_position (test step) (cond b (moment_at schedule point ∷ moments_of schedule later)
        (moments_of schedule later))
    moments-is b is =
        ap (λ c. last_position (test step)
        (cond c (moment_at schedule point ∷ moments_of schedule later) (moments_of schedule later)))
        is

    -- a point that is kept is a step of the schedule
    kept-within : is_kept schedule point later ≡ true → point ≤ length schedule
    kept-within is =
        let parts = and_parts (leb point (length schedule))
        (not (list_any (λ other. eqb other point) later)) is in let first = parts.0 in
        grind (arith, nat_tests)

    -- a point that is this step, where no later one is, is kept
    is-kept : point ≡ step → i ≡ 0 → is_kept schedule point later ≡ true
    is-kept e none =
        let within : leb point (length schedule) ≡ true = grind (arith, nat_tests) in
        ap (λ b. b && not (list_any (λ other. eqb other point) later)) within
        ∙ ap not (none-later (λ other. eqb other point) later
        (ap (index_of_point later) e ∙ none))

    see-later : (b : Bool) → is_kept schedule point later ≡ b → 0 < i → 0 < j → Sees b
    see-later true is p q =
        Later p q (position-later (λ x. eqb x step) point later p)
        (moments-is true is ∙ position-later (test step) (moment_at schedule point)
        (moments_of schedule later) q ∙ sym (add-one j))
    see-later false is p q =
        Later p q (position-later (λ x. eqb x step) point later p)
        (moments-is false is ∙ (let e : j ≡ j + 0 = omega arith in e))

    see-here : (b : Bool) → is_kept schedule point later ≡ b → (c : Bool) → eqb point step ≡ c
        → i ≡ 0 → j ≡ 0 → Sees b
    see-here true is true same none none' = Here
        (position-here (λ x. eqb x step) point later none ∙ ap (λ z. cond z 1 0) same)
        (moments-is true is ∙ position-here (test step) (moment_at schedule point)
        (moments_of schedule later) none'
        ∙ ap (λ z. cond z 1 0) (marks point step (kept-within is) low high ∙ same))
        refl
    see-here false is true same none none' =
        absurd (let kept = is-kept (eqb-true point step same) none in cc)
    see-here true is false same none none' = Nowhere
        (position-here (λ x. eqb x step) point later none ∙ ap (λ z. cond z 1 0) same)
        (moments-is true is ∙ position-here (test step) (moment_at schedule point)
        (moments_of schedule later) none'
        ∙ ap (λ z. cond z 1 0) (marks point step (kept-within is) low high ∙ same))
    see-here false is false same none none' = Nowhere
        (position-here (λ x. eqb x step) point later none ∙ ap (λ z. cond z 1 0) same)
        (moments-is false is ∙ none')

    see-by : nat_lt 0 i ≡ nat_lt 0 j → (k : ℕ) → i ≡ k → Sees (is_kept schedule point later)
    see-by some zero is =
        see-here (is_kept schedule point later) refl (eqb point step) refl is
        (grind (arith, nat_tests))
    see-by some (suc k) is =
        see-later (is_kept schedule point later) refl (omega arith) (grind (arith, nat_tests))

  sees : (point : ℕ) (later : List ℕ) → Alike later
      → (step : ℕ) (low : 0 < step) (high : step ≤ steps)
      → Sees point later step low high (is_kept schedule point later)
  sees point later alike step low high =
      see-by point later step low high (alike.some step low high) (by_points later step) refl

  indices-alike : (points : List ℕ) → Alike points
  indices-alike [] = record {
    some = λ step low high. refl;
    order = λ first second a b c d p q. refl;
  }
  indices-alike (point ∷ later) =
      let rest = indices-alike later in
      let one : ℕ = cond (is_kept schedule point later) 1 0 in
      record {
        some =
            λ step low high. view-some one (by_points later step) (by_moments later step)
            (by_points (point ∷ later) step) (by_moments (point ∷ later) step)
            (sees point later rest step low high);
        order = λ first second a b c d p q.
            view-order one (by_points later first) (by_moments later first)
            (by_points (point ∷ later) first) (by_moments (point ∷ later) first)
            (by_points later second) (by_moments later second)
            (by_points (point ∷ later) second) (by_moments (point ∷ later) second)
            (sees point later rest first a b) (sees point later rest second c d)
            (rest.order first second a b c d) p q;
      }

-- ---- the moment of a step occurs there and nowhere else
false-by : (b : Bool) → (b ≡ true → ⊥) → b ≡ false
false-by true h = absurd (h refl)
false-by false h = refl

moment-marks : (schedule : List ℕ) (point step : ℕ) → point ≤ length schedule → 0 < step
    → is_moment schedule step (moment_at schedule point) ≡ eqb point step
moment-marks schedule zero zero within low = absurd (omega arith)
moment-marks schedule zero (suc k) within low =
    let m = moment_at schedule zero in
    sym (ne_eqb zero (suc k) (λ e. omega arith)
    ∙ sym (false-by (is_moment schedule (suc k) m) (λ is.
    let parts = and_parts (passes_at (λ other. eqb other m.thread) schedule (suc k))
    (eqb (own_steps schedule m.thread (suc k)) m.number) is in
    let counted : own_steps schedule m.thread (suc k) ≡ m.number =
    eqb-true (own_steps schedule m.thread (suc k)) m.number parts.1 in
    let more = own-step m.thread schedule k parts.0 in
    let none : m.number ≡ 0 = refl in
    omega arith)))
moment-marks schedule (suc k) step within low =
    let m = moment_at schedule (suc k) in
    let t = get_or schedule k 0 in
    let took : passes_at (λ other. eqb other m.thread) schedule (suc k) ≡ true =
    ap (passes_at (λ other. eqb other m.thread) schedule) (sym (add-one k))
    ∙ passes_at-read (λ other. eqb other m.thread) schedule k 0 (omega arith)
    ∙ eq-eqb (get_or schedule k 0) m.thread
    (ap (λ x. get_or schedule x 0) (let e : k ≡ suc k - 1 = omega arith in e)) in
    let occurs : is_moment schedule (suc k) m ≡ true =
    ap (λ b. b && eqb (own_steps schedule m.thread (suc k)) m.number) took
    ∙ eq-eqb (own_steps schedule m.thread (suc k)) m.number refl in
    elim (cases_eq (suc k) step) [
      | inl e ↦ ap (λ s. is_moment schedule s m) (sym e) ∙ occurs ∙ sym (eq-eqb (suc k) step e)
      | inr ne ↦ false-by (is_moment schedule step m)
          (λ is. ne (moment-once schedule m (suc k) step occurs is)) ∙ sym (ne_eqb (suc k) step ne)
    ]

-- ---- ranks and runs
module _ (points schedule taken more : List ℕ) (t : ℕ) (cut : schedule ≡ taken ++ t ∷ more) where
  short-of : length taken ≤ length schedule
  short-of = omega (arith, ap length cut, length-append taken (t ∷ more))

  marks-in : (point step : ℕ) → point ≤ length schedule → 0 < step → step ≤ length taken
      → is_moment taken step (moment_at schedule point) ≡ eqb point step
  marks-in point step within low high =
      sym (is_moment-append taken (t ∷ more) step (moment_at schedule point) high)
      ∙ ap (λ s. is_moment s step (moment_at schedule point)) (sym cut)
      ∙ moment-marks schedule point step within low

  pub found-given : GivenAlike (index_of_point points)
      (index_of_moment (moments_of schedule points) taken) (length points)
      (length (moments_of schedule points)) (length taken)
  found-given =
      let alike = indices-alike schedule (length taken) (is_moment taken) short-of marks-in
      points in
      record {
        some = alike.some;
        low =
            λ step low high. greatest-le (passes_at (λ point. eqb point step) points)
            (length points);
        low' =
            λ step low high. greatest-le (passes_at (is_moment taken step)
            (moments_of schedule points)) (length (moments_of schedule points));
        order = alike.order;
      }

-- The run of an order and points is the directed run of its moments.
pub found-run : (deal : Deal) (bodies : List Pending) (order points : List ℕ) (limit : ℕ)
    (events : List Event) (verdict : Verdict) → IsOrder order → deal.threads ≡ length order
    → run deal bodies order points limit ≡ Some (events, verdict)
    → directed_run deal bodies order (moments_of (schedule_of events) points) limit
    ≡ Some (events, verdict)
found-run deal bodies order points limit events verdict ordered threads is =
    let moments = moments_of (schedule_of events) points in
    same-from deal bodies (rank order points) (rank_by_moments order moments) limit [] events
    verdict
    (λ taken more t cut a b p q.
    rank_by-alike (index_of_point points) (index_of_moment moments taken) (length points)
    (length moments) order taken ordered
    (found-given points (schedule_of events) taken more t cut) a b (omega arith) (omega arith))
    is
