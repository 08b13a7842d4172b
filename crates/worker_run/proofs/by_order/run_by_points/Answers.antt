use Rattle.std.proofs.Common.{◌≡◌, ℕ, Some, map, subst}
use Rattle.policy_pick.specs.Plan.{ByPoints}
use Rattle.policy_pick.specs.Kept.{points_plan}
use Rattle.worker_run.specs.Run.{run}
use Rattle.worker_run.specs.Played.{IsPlayed}
use Rattle.worker_run.proofs.Wholes.{told-run, told-played}
use Rattle.worker_run.proofs.by_order.run_by_points.Goals as goal

pub into_whole-requires : goal.into_whole-requires
into_whole-requires g c =
    let is = c.in_ok-played.ensures.run c.args.priorities.now.order.now
    c.args.priorities.now.points.now
    c.in_ok-policy.ensures.plan in (is.verdict, is.ends)

pub returns-clause-run : goal.returns-clause-run
returns-clause-run g c =
    let start = map g.B.Body.pending c.args.bodies.items in
    let whole = c.into_whole.result in
    let L : ℕ → Type 0 = λ most. run c.args.deal start c.args.priorities.now.order.now
    c.args.priorities.now.points.now most
    ≡ Some (whole.events, whole.verdict) in
    subst L c.steps.ensures.number (told-run
    (run c.args.deal start c.args.priorities.now.order.now c.args.priorities.now.points.now
    c.steps.result)
    c.in_ok-played.played.events c.into_whole.result.events c.in_ok-played.played.outcome
    c.into_whole.result.verdict
    (c.in_ok-played.ensures.run c.args.priorities.now.order.now c.args.priorities.now.points.now
    c.in_ok-policy.ensures.plan)
    c.into_whole.ensures.events c.into_whole.ensures.verdict)

pub returns-clause-played : goal.returns-clause-played
returns-clause-played g c =
    let start = map g.B.Body.pending c.args.bodies.items in
    let L : ℕ → Type 0 = λ most. IsPlayed (points_plan c.in_ok-policy.policy) c.args.deal start most
    c.in_ok-played.played.events c.in_ok-played.played.outcome in
    told-played (points_plan c.in_ok-policy.policy)
    (ByPoints c.args.priorities.now.order.now c.args.priorities.now.points.now)
    c.args.deal start c.args.limit c.in_ok-played.played.events c.into_whole.result.events
    c.in_ok-played.played.outcome c.into_whole.result.verdict
    c.in_ok-policy.ensures.plan c.into_whole.ensures.events c.into_whole.ensures.verdict
    (subst L c.steps.ensures.number c.in_ok-played.ensures.played)
