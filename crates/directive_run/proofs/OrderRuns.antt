-- The policies of orders are of the orders' directed runs.
use Rattle.std.proofs.Common.{◌≡◌, ℕ, List, Option, Some, Result, length, sym, ap, subst}
use Rattle.std.proofs.Common.{◌∙◌}
use Rattle.std.specs.Prelude.{IfOk}
use Rattle.pct_ask.specs.declared.event.Event.{Event}
use Rattle.pct_ask.specs.declared.verdict.Verdict.{Verdict}
use Rattle.pct_ask.specs.declared.verdict.Outcome.{Outcome}
use Rattle.pct_ask.specs.declared.verdict.Outcome.TheVariants.{Verdict as Ends}
use Rattle.policy_pick.specs.Kept.{MomentsKept, moments_plan}
use Rattle.rank_now.specs.declared.moment.Moment.{Moment}
use Rattle.policy_pick.specs.Plan.{ByMoments}
use Rattle.worker_run.specs.Run.{Run, directed_run}
use Rattle.worker_run.specs.Played.{IsRun}
use Rattle.script_run.specs.Batches.{IsPlanOf}
use Rattle.script_run.proofs.Laws.{by_moments}
use Rattle.directive_run.specs.declared.claim.Claim.{Claim}
use Rattle.directive_run.specs.Tested.{common_of_claim, directed_setup, IsOrderAt, IsRunAt}

-- a policy that was made of the order at the place is of its run
pub order-planned : {E : Type 0} (claim : Claim) (place : ℕ) (made : Result MomentsKept E)
    (order slice : List ℕ) (moments : List Moment)
    → IsOrderAt (directed_setup claim) place order → slice ≡ order
    → moments ≡ claim.directive.now.events → length slice ≡ claim.script.deal.now.threads
    → IfOk made (λ p. moments_plan p ≡ ByMoments slice moments)
    → IfOk made (λ p. IsPlanOf (common_of_claim claim) (IsRunAt (directed_setup claim) place)
    (moments_plan p))
order-planned claim place made order slice moments here same as_moments whole is =
    let setup = directed_setup claim in
    by_moments moments_plan (common_of_claim claim) (IsRunAt setup place) slice whole moments made
    (λ ended ran short other at.
    let both : Some order ≡ Some other = sym here ∙ at in
    let one : order ≡ other = cc in
    let R : List ℕ → List Moment → Type 0 =
    λ o es. IsRun (directed_run setup.deal setup.bodies o es setup.limit) ended.events
    ended.outcome in
    record {
      run = subst (λ o. R o setup.directive.events) (same ∙ one) (subst (R slice) as_moments ran);
      short = short;
    })
    is

-- a run that a verdict ended has that verdict
pub ended-run : (of : Option Run) (events : List Event) (outcome : Outcome) (verdict : Verdict)
    → IsRun of events outcome → outcome ≡ Ends verdict → of ≡ Some (events, verdict)
ended-run of events outcome verdict is ends =
    let both : Ends is.verdict ≡ Ends verdict = sym is.ends ∙ ends in
    let same : is.verdict ≡ verdict = cc in
    is.steps ∙ ap (λ (v : Verdict). Some (events, v)) same
