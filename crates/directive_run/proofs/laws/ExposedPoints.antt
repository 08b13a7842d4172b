-- The points that stand for the moments of a directed run: after each schedule on the way every
-- thread has the rank that
-- the moments give it, so the run of these points is the directed run.
use Rattle.std.proofs.Common.{◌≡◌, ℕ, zero, suc, ◌<◌, ◌≤◌, Bool, true, false, cond, leb, eqb, Some}
use Rattle.std.proofs.Common.{List, [], ◌∷◌, ◌++◌, length, map, refl, sym, ap, ◌∙◌, arith, inl, inr}
use Rattle.std.proofs.Common.{eq-eqb, ne_eqb}
use Rattle.std.specs.List.{All}
use Rattle.std.proofs.lemmas.Bool.{cases_eq}
use Rattle.std.proofs.lemmas.List.{length-append, length-map}
use Rattle.std.proofs.lemmas.List.Elements.{All-nil, All-cons}
use Rattle.pct_ask.specs.declared.Deal.{Deal}
use Rattle.pct_ask.specs.declared.event.Event.{Event}
use Rattle.pct_ask.specs.declared.verdict.Verdict.{Verdict}
use Rattle.pct_ask.specs.Bodies.{Pending}
use Rattle.rank_now.specs.declared.moment.Moment.{Moment}
use Rattle.rank_now.specs.Positions.{greatest_where, passes_at}
use Rattle.rank_now.specs.Rank.{rank_by, index_of_point, is_moment, index_of_moment, rank}
use Rattle.rank_now.specs.Rank.{rank_by_moments}
use Rattle.rank_now.proofs.laws.Positions.{greatest-agree, greatest-passes, greatest-le}
use Rattle.rank_now.proofs.laws.Positions.{passes_at-agree, rank_by-agree}
use Rattle.turn_book.specs.Posts.{schedule_of}
use Rattle.worker_run.specs.Run.{run, directed_run}
use Rattle.worker_run.proofs.laws.Moments.{moment-once, is_moment-append}
use Rattle.worker_run.proofs.laws.SameRuns.{same-from}
use Rattle.choices.specs.Points.{step_of_moment, point_of_moment, points_of}
use Rattle.choices.specs.PointLists.{IsWithin}

-- a greatest number of 0: none passes
greatest-zero-by : (test : ℕ → Bool) (n : ℕ) (b : Bool) → test (suc n) ≡ b
    → greatest_where test (suc n) ≡ 0
    → (greatest_where test n ≡ 0 → (j : ℕ) → 0 < j → j ≤ n → test j ≡ false) → (j : ℕ) → 0 < j
    → j ≤ suc n → test j ≡ false
greatest-zero-by test n true is e rest j low high =
    absurd (let z : suc n ≡ 0 = sym (ap (λ b. cond b (suc n) (greatest_where test n)) is) ∙ e in
    omega arith)
greatest-zero-by test n false is e rest j low high = elim (cases_eq j (suc n)) [
  | inl same ↦ ap test same ∙ is
  | inr ne ↦ rest (sym (ap (λ b. cond b (suc n) (greatest_where test n)) is) ∙ e) j low
      (omega arith)
]

greatest-zero : (test : ℕ → Bool) (n : ℕ) → greatest_where test n ≡ 0 → (j : ℕ) → 0 < j → j ≤ n
    → test j ≡ false
greatest-zero test zero e j low high = absurd (omega arith)
greatest-zero test (suc n) e j low high =
    greatest-zero-by test n (test (suc n)) refl e (λ f. greatest-zero test n f) j low high

false-by : (b : Bool) → (b ≡ true → ⊥) → b ≡ false
false-by true h = absurd (h refl)
false-by false h = refl

-- the point is a step short of the whole exactly where the moment is
point-marks : (schedule : List ℕ) (steps : ℕ) (moment : Moment) → length schedule ≤ steps
    → (step : ℕ) → 0 < step → step < length schedule
    → eqb (point_of_moment schedule steps moment) step ≡ is_moment schedule step moment
point-marks schedule steps moment room step low high =
    by (step_of_moment schedule moment) refl where
      by : (at : ℕ) → step_of_moment schedule moment ≡ at
          → eqb (point_of_moment schedule steps moment) step ≡ is_moment schedule step moment
      by zero is =
          ap (λ x. eqb (cond (eqb x 0) steps x) step) is
          ∙ ne_eqb steps step (λ e. omega arith)
          ∙ sym (greatest-zero (λ s. is_moment schedule s moment) (length schedule) is step low
          (omega arith))
      by (suc at) is =
          let point : point_of_moment schedule steps moment ≡ suc at =
          ap (λ x. cond (eqb x 0) steps x) is
          ∙ ap (λ b. cond b steps (suc at)) (ne_eqb (suc at) 0 (λ e. omega arith)) in
          let occurs : is_moment schedule (suc at) moment ≡ true =
          ap (λ s. is_moment schedule s moment) (sym is)
          ∙ greatest-passes (λ s. is_moment schedule s moment) (length schedule)
          (omega (arith, is)) in
          ap (λ x. eqb x step) point ∙ elim (cases_eq (suc at) step) [
            | inl e ↦ eq-eqb (suc at) step e ∙ sym occurs ∙ ap (λ s. is_moment schedule s moment) e
            | inr ne ↦ ne_eqb (suc at) step ne
                ∙ sym (false-by (is_moment schedule step moment)
                (λ t. ne (moment-once schedule moment (suc at) step occurs t)))
          ]

-- ---- indices and ranks
passes_at-map : {X Y : Type 0} (f : X → Y) (test : Y → Bool) (xs : List X) (k : ℕ)
    → passes_at test (map f xs) k ≡ passes_at (λ x. test (f x)) xs k
passes_at-map f test xs zero = refl
passes_at-map f test [] (suc k) = refl
passes_at-map f test (x ∷ xs) (suc zero) = refl
passes_at-map f test (x ∷ xs) (suc (suc k)) = passes_at-map f test xs (suc k)

module _ (order : List ℕ) (moments : List Moment) (schedule : List ℕ) (steps : ℕ)
    (room : length schedule ≤ steps) where
  abbrev points : List ℕ
  points = points_of schedule steps moments

  long : length points ≡ length moments
  long = length-map moments (point_of_moment schedule steps)

  module _ (taken more : List ℕ) (t : ℕ) (cut : schedule ≡ taken ++ t ∷ more) where
    marks : (step : ℕ) → 0 < step → step ≤ length taken → (moment : Moment)
        → eqb (point_of_moment schedule steps moment) step ≡ is_moment taken step moment
    marks step low high moment =
        point-marks schedule steps moment room step low
        (omega (arith, ap length cut, length-append taken (t ∷ more)))
        ∙ ap (λ s. is_moment s step moment) cut
        ∙ is_moment-append taken (t ∷ more) step moment high

    index-same : (step : ℕ) → 0 < step → step ≤ length taken
        → index_of_point points step ≡ index_of_moment moments taken step
    index-same step low high =
        ap (greatest_where (passes_at (λ point. eqb point step) points)) long
        ∙ greatest-agree (passes_at (λ point. eqb point step) points)
        (passes_at (is_moment taken step) moments) (length moments) (λ k p q.
        passes_at-map (point_of_moment schedule steps) (λ point. eqb point step) moments k
        ∙ passes_at-agree (λ moment. eqb (point_of_moment schedule steps moment) step)
        (is_moment taken step) (marks step low high) moments k)

    pub exposed-rank : (thread : ℕ) → rank order points taken thread
        ≡ rank_by_moments order moments taken thread
    exposed-rank thread =
        rank_by-agree (index_of_moment moments taken) (index_of_point points) (length points) order
        taken index-same thread
        ∙ ap (λ n. rank_by (index_of_moment moments taken) n order taken thread) long

-- The directed run is the run of the points that stand for its moments.
pub exposed-run : (deal : Deal) (bodies : List Pending) (order : List ℕ) (moments : List Moment)
    (limit steps : ℕ) (events : List Event) (verdict : Verdict)
    → length (schedule_of events) ≤ steps
    → directed_run deal bodies order moments limit ≡ Some (events, verdict)
    → run deal bodies order (points_of (schedule_of events) steps moments) limit
    ≡ Some (events, verdict)
exposed-run deal bodies order moments limit steps events verdict room is =
    same-from deal bodies (rank_by_moments order moments)
    (rank order (points_of (schedule_of events) steps moments)) limit [] events verdict
    (λ taken more t cut a b p q. λ i.
    leb (sym (exposed-rank order moments (schedule_of events) steps room taken more t cut a) i)
    (sym (exposed-rank order moments (schedule_of events) steps room taken more t cut b) i))
    is

-- ---- the points are steps that there may be

point-within : (schedule : List ℕ) (steps : ℕ) (moment : Moment) → length schedule ≤ steps
    → 1 ≤ steps → (at : ℕ) → step_of_moment schedule moment ≡ at
    → IsWithin steps (point_of_moment schedule steps moment)
point-within schedule steps moment room some zero is =
    let e : point_of_moment schedule steps moment ≡ steps = ap (λ x. cond (eqb x 0) steps x) is in
    (omega arith, omega arith)
point-within schedule steps moment room some (suc at) is =
    let e : point_of_moment schedule steps moment ≡ suc at =
    ap (λ x. cond (eqb x 0) steps x) is
    ∙ ap (λ b. cond b steps (suc at)) (ne_eqb (suc at) 0 (λ z. omega arith)) in
    let le = greatest-le (λ s. is_moment schedule s moment) (length schedule) in
    (omega arith, omega (arith, e, is, le))

pub points-within : (schedule : List ℕ) (steps : ℕ) (moments : List Moment)
    → length schedule ≤ steps → 1 ≤ steps → All (IsWithin steps) (points_of schedule steps moments)
points-within schedule steps [] room some = All-nil (IsWithin steps)
points-within schedule steps (m ∷ ms) room some =
    All-cons (IsWithin steps) (point_of_moment schedule steps m) (points_of schedule steps ms)
    (point-within schedule steps m room some (step_of_moment schedule m) refl)
    (points-within schedule steps ms room some)
