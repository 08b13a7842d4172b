-- Change points from a run's last step on change nothing of it: a run asks of points only which one
-- is a step before its last.
use Rattle.std.proofs.Common.{◌≡◌, ℕ, zero, suc, ◌<◌, leb, eqb, Some, List, [], ◌∷◌}
use Rattle.std.proofs.Common.{length, refl, sym, ap, subst, ◌∙◌, ◌≤◌, Option, None, arith, inl, inr}
use Rattle.std.proofs.Common.{ne_eqb}
use Rattle.std.proofs.Math.Nat.{le-max_left, le-max_right}
use Rattle.std.proofs.lemmas.Bool.{cases_lt}
use Rattle.std.proofs.lemmas.List.{length-append, length-map}
use Rattle.pct_ask.specs.declared.Deal.{Deal}
use Rattle.pct_ask.specs.declared.event.Event.{Event}
use Rattle.pct_ask.specs.declared.verdict.Verdict.{Verdict}
use Rattle.pct_ask.specs.Bodies.{Pending}
use Rattle.rank_now.specs.Positions.{greatest_where, passes_at}
use Rattle.rank_now.specs.Rank.{index_of_point, rank, rank_by}
use Rattle.rank_now.proofs.laws.Positions.{greatest-agree, rank_by-agree}
use Rattle.turn_book.specs.Posts.{schedule_of}
use Rattle.worker_run.specs.Run.{Run, run}
use Rattle.worker_run.proofs.laws.SameRuns.{same-from}
use Rattle.sweep.specs.Rows.{SweepSetup, leads}
use Rattle.sweep.specs.Weights.{top}
use Rattle.sweep.proofs.Totals.{runs}
use Rattle.sweep.proofs.Weights.{AreLike}

-- the same points, as far as they are among the first steps
abbrev pub AreAlike : ℕ → List ℕ → List ℕ → Type 0
AreAlike steps [] [] = Unit {0}
AreAlike steps [] (q ∷ qs) = ⊥
AreAlike steps (p ∷ ps) [] = ⊥
AreAlike steps (p ∷ ps) (q ∷ qs) =
    ((step : ℕ) → 0 < step → step < steps → eqb p step ≡ eqb q step) × AreAlike steps ps qs

alike-long : (steps : ℕ) (ps qs : List ℕ) → AreAlike steps ps qs → length ps ≡ length qs
alike-long steps [] [] are = refl
alike-long steps [] (q ∷ qs) are = absurd are
alike-long steps (p ∷ ps) [] are = absurd are
alike-long steps (p ∷ ps) (q ∷ qs) are = ap suc (alike-long steps ps qs are.1)

passes-alike : (steps step : ℕ) → 0 < step → step < steps → (ps qs : List ℕ)
    → AreAlike steps ps qs → (k : ℕ)
    → passes_at (λ p. eqb p step) ps k ≡ passes_at (λ p. eqb p step) qs k
passes-alike steps step low high ps qs are zero = refl
passes-alike steps step low high [] [] are (suc k) = refl
passes-alike steps step low high [] (q ∷ qs) are (suc k) = absurd are
passes-alike steps step low high (p ∷ ps) [] are (suc k) = absurd are
passes-alike steps step low high (p ∷ ps) (q ∷ qs) are (suc zero) = are.0 step low high
passes-alike steps step low high (p ∷ ps) (q ∷ qs) are (suc (suc k)) =
    passes-alike steps step low high ps qs are.1 (suc k)

index-alike : (steps step : ℕ) → 0 < step → step < steps → (ps qs : List ℕ)
    → AreAlike steps ps qs → index_of_point ps step ≡ index_of_point qs step
index-alike steps step low high ps qs are =
    greatest-agree (passes_at (λ p. eqb p step) ps) (passes_at (λ p. eqb p step) qs) (length ps)
    (λ k some few. passes-alike steps step low high ps qs are k)
    ∙ ap (greatest_where (passes_at (λ p. eqb p step) qs)) (alike-long steps ps qs are)

rank-alike : (steps : ℕ) (order ps qs taken : List ℕ) → length taken < steps
    → AreAlike steps ps qs → (thread : ℕ) → rank order ps taken thread ≡ rank order qs taken thread
rank-alike steps order ps qs taken short are thread =
    rank_by-agree (index_of_point qs) (index_of_point ps) (length ps) order taken
    (λ step low high. index-alike steps step low (omega arith) ps qs are) thread
    ∙ ap (λ n. rank_by (index_of_point qs) n order taken thread) (alike-long steps ps qs are)

-- So points that are the same below the run's length lead to the same run.
repeats : (deal : Deal) (bodies : List Pending) (order points others : List ℕ) (limit : ℕ)
    (made : List Event) (verdict : Verdict) → AreAlike (length (schedule_of made)) points others
    → run deal bodies order points limit ≡ Some (made, verdict)
    → run deal bodies order others limit ≡ Some (made, verdict)
repeats deal bodies order points others limit made verdict are is =
    same-from deal bodies (rank order points) (rank order others) limit [] made verdict
    (λ taken more t cut a b p q.
    let short : length taken < length (schedule_of made) =
    omega (arith, ap length cut, length-append taken (t ∷ more)) in
    λ i. leb (rank-alike (length (schedule_of made)) order points others taken short are a i)
    (rank-alike (length (schedule_of made)) order points others taken short are b i))
    is

-- ---- whole sweeps

like-alike : (t steps : ℕ) → steps ≤ t → (ps qs : List ℕ) → AreLike t ps qs → AreAlike steps ps qs
like-alike t steps few [] [] are = tt
like-alike t steps few [] (q ∷ qs) are = absurd are
like-alike t steps few (p ∷ ps) [] are = absurd are
like-alike t steps few (p ∷ ps) (q ∷ qs) are = (
  λ step low high. elim (cases_lt p t) [
    | inl less ↦ ap (λ n. eqb n step) (sym (are.0.0 less))
    | inr more ↦
        ne_eqb p step (λ e. omega (arith, e, more, high, few))
        ∙ sym (ne_eqb q step (λ e. omega (arith, e, are.0.1 more, high, few)))
  ],
  like-alike t steps few ps qs are.1,
)

length-schedule : (made : List Event) → length (schedule_of made) ≡ length made
length-schedule made = length-map made (λ (e : Event). e.thread)

-- points that are like each other from a bound on, which isn't below the run's length
pub same-leads : (setup : SweepSetup) (order ps qs : List ℕ) (t : ℕ) (ran : Run)
    → leads setup order ps ≡ Some ran → length ran.0 ≤ t → AreLike t ps qs
    → leads setup order qs ≡ Some ran
same-leads setup order ps qs t ran is short are =
    repeats setup.deal setup.bodies order ps qs setup.limit ran.0 ran.1
    (like-alike t (length (schedule_of ran.0)) (omega (arith, length-schedule ran.0, short)) ps qs
    are) is

pub top-some : (r : Option Run) → 1 ≤ top r
top-some None = omega arith
top-some (Some ran) = le-max_right (length ran.0) 1

pub top-long : (r : Option Run) (ran : Run) → r ≡ Some ran → length ran.0 ≤ top r
top-long r ran is =
    subst (λ (o : Option Run). length ran.0 ≤ top o) (sym is) (le-max_left (length ran.0) 1)

pub leads-repeat : (setup : SweepSetup) (order ps qs : List ℕ)
    → AreLike (top (leads setup order ps)) ps qs → leads setup order qs ≡ leads setup order ps
leads-repeat setup order ps qs are =
    let ran = runs setup.deal setup.bodies order ps setup.limit in
    same-leads setup order ps qs (top (leads setup order ps)) ran.0 ran.1
    (top-long (leads setup order ps) ran.0 ran.1) are ∙ sym ran.1
