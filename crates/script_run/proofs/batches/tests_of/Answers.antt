-- The test of the next place.
use Rattle.std.proofs.Common.{◌≡◌, ◌+◌, sym, ap, subst, ◌∙◌, length, arith}
use Rattle.pct_ask.specs.declared.Deal.{Deal}
use Rattle.policy_pick.specs.Plan.{SpeaksOf}
use Rattle.script_body.specs.BodyPosts.{pending_of_body}
use Rattle.worker_run.specs.Tests.{IsTest}
use Rattle.script_run.specs.Tests.{Tries}
use Rattle.script_code.specs.Listing.{listing}
use Rattle.script_run.proofs.Places.{no-items, one-more}
use Rattle.script_run.proofs.Sets.{planned}
use Rattle.script_run.proofs.batches.tests_of.Goals as goal

pub loop-place-init : goal.loop-place-init
loop-place-init g c =
    let plan = g.T.Policy.Policy.plan in
    let made = c.in_ok-tests.ensures in
    let tests = c.in_ok-tests.tests.items in
    record {
      long = omega (arith, made.len);
      room = omega (arith, made.exact, c.requires.places);
      asked = no-items (λ place. IsTest pending_of_body plan g.T.Policy.Policy.stands) c.args.start
          tests made.items;
      tests =
          no-items (λ place. Tries pending_of_body plan (g.T.Batch.is_run c.args.batch.now place))
          c.args.start tests made.items;
    }

pub loop-place-preserved : goal.loop-place-preserved
loop-place-preserved g c =
    let plan = g.T.Policy.Policy.plan in
    let at = c.loop-place in
    let start = c.args.start in
    let pushed = c.push_reserved.ensures in
    let new = c.push_reserved.new.self.items in
    let next : at.place ≡ start + length at.tests.items =
    omega (arith, at.invariant.long, at.tests.ok.0) in
    let common = g.T.Batch.common c.args.batch.now in
    let is_run = g.T.Batch.is_run c.args.batch.now at.place in
    let script = c.script-script.result in
    let here : Tries pending_of_body plan is_run c.in_ok-test.test = λ played ran.
    planned common is_run (plan c.in_ok-policy.policy) script.deal.now (listing script.code.now)
    c.limit-limit.result c.script-script.ensures.deal c.script-script.ensures.code
    c.limit-limit.ensures c.in_ok-policy.ensures.plan played
    (c.in_ok-test.ensures.run played ran) in
    record {
      long = omega (arith, pushed.len, at.invariant.long);
      room = ap (λ n. start + n) pushed.capacity ∙ at.invariant.room;
      asked =
          one-more (λ place. IsTest pending_of_body plan g.T.Policy.Policy.stands) start at.place
          at.tests.items new c.in_ok-test.test next pushed.items c.in_ok-test.ensures.asked
          at.invariant.asked;
      tests =
          one-more (λ place. Tries pending_of_body plan (g.T.Batch.is_run c.args.batch.now place))
          start
          at.place at.tests.items new c.in_ok-test.test next pushed.items here
          at.invariant.tests;
    }

pub test-requires-clause-speaks : goal.test-requires-clause-speaks
test-requires-clause-speaks g c κs within =
    subst (λ (d : Deal). SpeaksOf (g.T.Policy.Policy.plan c.in_ok-policy.policy) d.threads)
    (sym c.script-script.ensures.deal) (c.in_ok-policy.ensures.plan).speaks
