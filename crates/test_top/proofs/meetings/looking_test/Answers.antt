use Rattle.std.proofs.Common.{refl}
use Rattle.script_code.specs.Listing.{listing}
use Rattle.script_body.specs.BodyPosts.{pending_of_body}
use Rattle.script_body.proofs.laws.ScriptBodies.{one_each, all_in_range}
use Rattle.worker_run.proofs.laws.Orders.{declared_is_order}
use Rattle.test_top.proofs.meetings.looking_test.Goals as goal

pub invariant_of-priorities-clause-is_order : goal.invariant_of-priorities-clause-is_order
invariant_of-priorities-clause-is_order c = ∣ declared_is_order 3 ∣₁

pub by_points-requires-clause-bodies : goal.by_points-requires-clause-bodies
by_points-requires-clause-bodies c = λ κs lives.
    one_each c.in_ok-bodies.bodies.items (λ b. pending_of_body b.body) c.requires.of.0
    (listing c.args.code.now) c.args.deal c.args.deal c.requires.of.1 refl c.in_ok-bodies.ensures

pub by_points-requires-clause-in_range : goal.by_points-requires-clause-in_range
by_points-requires-clause-in_range c = λ κs lives.
    all_in_range c.in_ok-bodies.bodies.items (λ b. pending_of_body b.body) c.requires.of.0
    (listing c.args.code.now) c.args.deal c.args.deal c.requires.of.1 refl c.in_ok-bodies.ensures
