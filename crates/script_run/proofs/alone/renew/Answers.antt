-- One runner more, and in the end one for each thread.
use Rattle.std.proofs.Common.{◌<◌, ◌≤◌, [], ◌∷◌, ◌++◌, Some, length, ap, subst, ◌∙◌, arith}
use Rattle.std.proofs.lemmas.List.{take_all}
use Rattle.script_code.specs.Listing.{listing}
use Rattle.script_body.specs.declared.body.ScriptBody.{ScriptBody}
use Rattle.worker_run.specs.declared.runner.Runner.{Runner}
use Rattle.script_run.specs.Batches.{AreRunnersOf}
use Rattle.script_run.proofs.Sets.{no-runners, one-runner-more}
use Rattle.script_run.proofs.alone.renew.Goals as goal

pub loop-thread-init : goal.loop-thread-init
loop-thread-init c =
    no-runners (listing c.args.code.now) c.clear.new.self.items c.clear.ensures.items

pub loop-thread-preserved : goal.loop-thread-preserved
loop-thread-preserved c =
    let code = listing c.args.code.now in
    let within : c.loop-thread.thread < length code =
    omega (arith, c.loop-thread-test.true, c.threads-thread-end.ensures) in
    let before = c.loop-thread.runners.items in
    one-runner-more code before c.push.new.self.items c.new.result c.loop-thread.thread within
    c.loop-thread.invariant
    (c.in_ok-push.ensures.items
    ∙ ap (λ (r : Runner ScriptBody). before ++ Some r ∷ []) c.new-in-loop-thread.ensures)
    c.new.ensures.code

pub returns : goal.returns
returns c =
    let code = listing c.args.code.now in
    let past : length code ≤ c.loop-thread.thread =
    omega (arith, c.loop-thread-test.false, c.threads-thread-end.ensures) in
    subst (λ l. AreRunnersOf l c.loop-thread.runners.items)
    (take_all c.loop-thread.thread code past)
    c.loop-thread.invariant
