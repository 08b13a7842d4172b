use Rattle.std.proofs.Common.{◌<◌, ◌≤◌, length, map, ap, refl, ◌∙◌, arith}
use Rattle.std.proofs.lemmas.List.{take_all}
use Rattle.script_code.specs.FlatPosts.{flat_pending}
use Rattle.script_code.specs.Listing.{listing}
use Rattle.script_body.specs.BodyPosts.{pending_of_body}
use Rattle.script_body.proofs.laws.ScriptBodies.{one_more, code_bodies, all_in_range}
use Rattle.script_body.proofs.bodies.bodies_of.Goals as goal

pub loop-thread-preserved : goal.loop-thread-preserved
loop-thread-preserved c =
    let code = listing c.args.code.now in
    let within : c.loop-thread.thread < length code =
    omega (arith, c.loop-thread-test.true, c.threads-thread-end.ensures) in
    let pushed = c.push_reserved.ensures in
    record {
      long = omega (arith, pushed.len, c.loop-thread.invariant.long);
      room = pushed.capacity ∙ c.loop-thread.invariant.room;
      posts =
          one_more pending_of_body code c.loop-thread.bodies.items c.push_reserved.new.self.items
          c.new.result c.loop-thread.thread within c.loop-thread.invariant.posts pushed.items
          c.new.ensures.code;
    }

pub returns-clause-code : goal.returns-clause-code
returns-clause-code c =
    let code = listing c.args.code.now in
    let past : length code ≤ c.loop-thread.thread =
    omega (arith, c.loop-thread-test.false, c.threads-thread-end.ensures) in
    c.loop-thread.invariant.posts ∙ ap (map flat_pending) (take_all c.loop-thread.thread code past)

pub returns-clause-script : goal.returns-clause-script
returns-clause-script c =
    λ script of. returns-clause-code c ∙ code_bodies script (listing c.args.code.now) of

pub returns-clause-in_range : goal.returns-clause-in_range
returns-clause-in_range c =
    λ script deal of. all_in_range c.loop-thread.bodies.items pending_of_body script
    (listing c.args.code.now) deal deal of refl (returns-clause-code c)
