-- The policies of choices are of the choices' runs.
use Rattle.std.proofs.Common.{◌≡◌, ◌<◌, ℕ, List, Some, Result, length, get_or}
use Rattle.std.proofs.Common.{sym, subst, ◌∙◌}
use Rattle.std.specs.Prelude.{IfOk}
use Rattle.std.proofs.lemmas.Option.{slice_get-get_or}
use Rattle.policy_pick.specs.Kept.{PointsKept, points_plan}
use Rattle.policy_pick.specs.Plan.{ByPoints}
use Rattle.worker_run.specs.Run.{run}
use Rattle.worker_run.specs.Played.{IsRun}
use Rattle.script_run.specs.Batches.{IsPlanOf}
use Rattle.script_run.proofs.Laws.{by_points}
use Rattle.sweep.specs.declared.choice.Choice.{Choice}
use Rattle.sweep.specs.declared.next.NextRuns.{NextRuns}
use Rattle.sweep.specs.Batches.{common_of_sweep, setup_of_sweep, IsChoiceAt, IsRunOfChoice}
use Rattle.sweep.specs.Batches.{IsRunOfNext}

-- a policy that was made of the choice at a place is of the run of the number at which the place
-- stands
pub next-planned : {E : Type 0} (next : NextRuns) (i place : ℕ) (choice : Choice)
    (made : Result PointsKept E) (order points : List ℕ)
    → i < length next.ahead.now.places.items
    → place ≡ get_or next.ahead.now.places.items i place
    → IsChoiceAt (setup_of_sweep next.sweep.now) place choice → order ≡ choice.order
    → points ≡ choice.points → length order ≡ next.sweep.now.script.deal.now.threads
    → IfOk made (λ p. points_plan p ≡ ByPoints order points)
    → IfOk made (λ p. IsPlanOf (common_of_sweep next.sweep.now) (IsRunOfNext next i)
    (points_plan p))
next-planned next i place choice made order points within is at ordered pointed whole plan =
    let setup = setup_of_sweep next.sweep.now in
    by_points points_plan (common_of_sweep next.sweep.now) (IsRunOfNext next i) order whole points
    made
    (λ ended ran short other there.
    let R : List ℕ → List ℕ → Type 0 =
    λ o ps. IsRun (run setup.deal setup.bodies o ps setup.limit) ended.events ended.outcome in
    let both : Some (get_or next.ahead.now.places.items i place) ≡ Some other =
    sym (slice_get-get_or next.ahead.now.places.items i place within) ∙ there in
    let same : get_or next.ahead.now.places.items i place ≡ other = cc in
    subst (λ p. IsRunOfChoice setup p ended) (is ∙ same) (record {
      choice = choice;
      at = at;
      run = subst (λ o. R o choice.points) ordered (subst (R order) pointed ran);
      short = short;
    }))
    plan
