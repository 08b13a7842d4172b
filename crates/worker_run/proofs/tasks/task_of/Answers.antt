use Rattle.std.proofs.Common.{◌<◌, Option, length, set, sym, ap, ◌∙◌, arith}
use Rattle.worker_run.specs.declared.runner.Runner.{Runner}
use Rattle.worker_run.proofs.Shares.{runner-read}
use Rattle.worker_run.proofs.TakenTasks.{off-serves, off-share, off-task}
use Rattle.worker_run.proofs.tasks.task_of.Goals as goal

pub split-requires-clause-serves : goal.split-requires-clause-serves
split-requires-clause-serves g c κs lives =
    let share = c.args.share.now in
    let within : c.args.thread < length share.runners.items =
    omega (arith, c.if-len-thread.false, c.len.ensures, share.runners.ok.0) in
    let at = runner-read share.runners.items c.args.thread c.index_mut.result.now c.in-Some.runner
    within (sym c.index_mut.ensures.value ∙ sym c.take.ensures.value ∙ c.in-Some.is) in
    off-serves g.B.Body.pending c.args.test.now share c.requires.share c.args.thread
    c.in-Some.runner at

pub returns-in-Some-clause-share : goal.returns-in-Some-clause-share
returns-in-Some-clause-share g c =
    let share = c.args.share.now in
    let within : c.args.thread < length share.runners.items =
    omega (arith, c.if-len-thread.false, c.len.ensures, share.runners.ok.0) in
    let at = runner-read share.runners.items c.args.thread c.index_mut.result.now c.in-Some.runner
    within (sym c.index_mut.ensures.value ∙ sym c.take.ensures.value ∙ c.in-Some.is) in
    off-share g.B.Body.pending c.args.test.now share c.requires.share c.args.thread
    c.in-Some.runner at _ c.split.ensures.of.0 c.split.ensures.left
    (ap (λ (o : Option (Runner g.row.B.Denot)). set share.runners.items c.args.thread o)
    c.take.ensures.after)

pub returns-in-Some-clause-task : goal.returns-in-Some-clause-task
returns-in-Some-clause-task g c =
    let share = c.args.share.now in
    let within : c.args.thread < length share.runners.items =
    omega (arith, c.if-len-thread.false, c.len.ensures, share.runners.ok.0) in
    let at = runner-read share.runners.items c.args.thread c.index_mut.result.now c.in-Some.runner
    within (sym c.index_mut.ensures.value ∙ sym c.take.ensures.value ∙ c.in-Some.is) in
    off-task g.B.Body.pending c.args.test.now share c.requires.share c.args.thread
    c.in-Some.runner at c.split.result c.split.ensures.of.1 c.split.ensures.right
