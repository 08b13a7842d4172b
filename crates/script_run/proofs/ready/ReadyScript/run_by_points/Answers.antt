-- The run of the test is that of the order and the points.
use Rattle.std.proofs.Common.{length, sym, ap, subst, ◌∙◌, arith}
use Rattle.policy_pick.specs.Plan.{Plan, ByPoints}
use Rattle.script_code.specs.Listing.{listing}
use Rattle.script_body.specs.Bodies.{bodies_of}
use Rattle.script_body.proofs.laws.ScriptBodies.{code_bodies}
use Rattle.worker_run.specs.Run.{run}
use Rattle.worker_run.specs.Played.{IsPlayed}
use Rattle.script_run.specs.Ready.{bodies_of_code}
use Rattle.script_run.proofs.Runs.{told-run, told-played}
use Rattle.script_run.proofs.ready.ReadyScript.run_by_points.Goals as goal

pub into_whole-requires : goal.into_whole-requires
into_whole-requires g c =
    let is = c.in_ok-test.ensures.run c.in_ok-played.played c.in_ok-played.ensures in
    let run = is.by_points c.args.priorities.now.order.now c.args.priorities.now.points.now
    c.in_ok-policy.ensures.plan in
    (run.verdict, run.ends)

pub returns-clause-code : goal.returns-clause-code
returns-clause-code g c =
    let ready = c.args.self.now in
    let played = c.in_ok-played.played in
    let whole = c.into_whole.result in
    let is = c.in_ok-test.ensures.run played c.in_ok-played.ensures in
    told-run (run ready.deal.now (bodies_of_code (listing ready.code.now))
    c.args.priorities.now.order.now
    c.args.priorities.now.points.now c.args.limit) played.events whole.events played.outcome
    whole.verdict
    (is.by_points c.args.priorities.now.order.now c.args.priorities.now.points.now
    c.in_ok-policy.ensures.plan)
    c.into_whole.ensures.events c.into_whole.ensures.verdict

pub returns-clause-run : goal.returns-clause-run
returns-clause-run g c = λ script of.
    let deal = c.args.self.now.deal.now in
    let code = listing c.args.self.now.code.now in
    ap (λ bodies. run deal bodies c.args.priorities.now.order.now c.args.priorities.now.points.now
    c.args.limit)
    (sym (code_bodies script code of.is_code)) ∙ returns-clause-code g c

pub returns-clause-played : goal.returns-clause-played
returns-clause-played g c = λ script of.
    let deal = c.args.self.now.deal.now in
    let code = listing c.args.self.now.code.now in
    let played = c.in_ok-played.played in
    let whole = c.into_whole.result in
    let is = c.in_ok-test.ensures.run played c.in_ok-played.ensures in
    told-played (ByPoints c.args.priorities.now.order.now c.args.priorities.now.points.now) deal
    (bodies_of_code code)
    (bodies_of script) c.args.limit played.events whole.events played.outcome whole.verdict
    (code_bodies script code of.is_code) c.into_whole.ensures.events c.into_whole.ensures.verdict
    (subst (λ (p : Plan). IsPlayed p deal (bodies_of_code code) c.args.limit played.events
    played.outcome) c.in_ok-policy.ensures.plan is.played)

pub returns-clause-few : goal.returns-clause-few
returns-clause-few g c =
    let is = c.in_ok-test.ensures.run c.in_ok-played.played c.in_ok-played.ensures in
    omega (arith, is.played.obeys.within, ap length c.into_whole.ensures.events)
