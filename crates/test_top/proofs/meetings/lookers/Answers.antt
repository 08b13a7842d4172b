use Rattle.std.proofs.Common.{◌<◌, length, arith}
use Rattle.script_code.specs.Listing.{listing}
use Rattle.script_body.specs.BodyPosts.{pending_of_body}
use Rattle.script_body.proofs.laws.ScriptBodies.{one_more}
use Rattle.test_top.proofs.meetings.lookers.Goals as goal

pub loop-thread-preserved : goal.loop-thread-preserved
loop-thread-preserved c =
    let code = listing c.args.code.now in
    let within : c.loop-thread.thread < length code =
    omega (arith, c.loop-thread-test.true, c.threads-thread-end.ensures) in
    one_more (λ b. pending_of_body b.body) code c.loop-thread.lookers.items c.push.new.self.items _
    c.loop-thread.thread within c.loop-thread.invariant c.in_ok-push.ensures.items
    c.new-body.ensures.code
