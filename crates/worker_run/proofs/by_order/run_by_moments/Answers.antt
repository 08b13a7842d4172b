use Rattle.std.proofs.Common.{◌≡◌, ℕ, Some, map, subst}
use Rattle.policy_pick.specs.Plan.{ByMoments}
use Rattle.policy_pick.specs.Kept.{moments_plan}
use Rattle.worker_run.specs.Run.{directed_run}
use Rattle.worker_run.specs.Played.{IsPlayed}
use Rattle.worker_run.proofs.Wholes.{told-run, told-played}
use Rattle.worker_run.proofs.by_order.run_by_moments.Goals as goal

pub into_whole-requires : goal.into_whole-requires
into_whole-requires g c =
    let is = c.in_ok-played.ensures.directed c.args.priorities.now.order.now
    c.args.priorities.now.moments.now
    c.in_ok-policy.ensures.plan in (is.verdict, is.ends)

pub returns-clause-directed : goal.returns-clause-directed
returns-clause-directed g c =
    let start = map g.B.Body.pending c.args.bodies.items in
    let whole = c.into_whole.result in
    let L : ℕ → Type 0 = λ most.
    directed_run c.args.deal start c.args.priorities.now.order.now c.args.priorities.now.moments.now
    most
    ≡ Some (whole.events, whole.verdict) in
    subst L c.steps.ensures.number (told-run
    (directed_run c.args.deal start c.args.priorities.now.order.now
    c.args.priorities.now.moments.now
    c.steps.result)
    c.in_ok-played.played.events c.into_whole.result.events c.in_ok-played.played.outcome
    c.into_whole.result.verdict
    (c.in_ok-played.ensures.directed c.args.priorities.now.order.now
    c.args.priorities.now.moments.now
    c.in_ok-policy.ensures.plan)
    c.into_whole.ensures.events c.into_whole.ensures.verdict)

pub returns-clause-played : goal.returns-clause-played
returns-clause-played g c =
    let start = map g.B.Body.pending c.args.bodies.items in
    let L : ℕ → Type 0 = λ most. IsPlayed (moments_plan c.in_ok-policy.policy) c.args.deal start
    most
    c.in_ok-played.played.events c.in_ok-played.played.outcome in
    told-played (moments_plan c.in_ok-policy.policy)
    (ByMoments c.args.priorities.now.order.now c.args.priorities.now.moments.now)
    c.args.deal start c.args.limit c.in_ok-played.played.events c.into_whole.result.events
    c.in_ok-played.played.outcome c.into_whole.result.verdict
    c.in_ok-policy.ensures.plan c.into_whole.ensures.events c.into_whole.ensures.verdict
    (subst L c.steps.ensures.number c.in_ok-played.ensures.played)
