use Rattle.std.proofs.Common.{◌<◌, length, get_or, refl, arith}
use Rattle.std.proofs.lemmas.Option.{slice_get-get_or, slice_get_read}
use Rattle.worker_run.specs.Batch.{IsTask, IsServedTask, IsTaskBack}
use Rattle.worker_run.proofs.Eachs.{each-set, get-within}
use Rattle.worker_run.proofs.Backs.{back-same, back-along}
use Rattle.worker_run.proofs.Loops.{below-set, below-all, served-is}
use Rattle.worker_run.proofs.task_lists.serve_tasks.Goals as goal

pub loop-index-init : goal.loop-index-init
loop-index-init g c =
    record {
      tasks = c.requires.tasks;
      done = λ i s w below here there. absurd (omega arith);
      back = back-same g.B.Body.pending c.args.thread c.args.tasks.now;
    }

pub serve_task-requires-clause-task : goal.serve_task-requires-clause-task
serve_task-requires-clause-task g c = λ κs lives.
    let k = c.loop-index.index in
    let i = c.loop-index.invariant in
    let tasks = c.loop-index.tasks in
    let tests = c.args.tests.now in
    let test = c.index-tests-index.result in
    let task = get_or tasks k c.index-tasks-index.result in
    let under : k < length tests = c.loop-index-test.true in
    let within : k < length tasks = omega (arith, i.tasks.long) in
    let here = slice_get_read tests (length tests) k test refl under c.index-tests-index.is in
    let there = slice_get-get_or tasks k c.index-tasks-index.result within in
    i.tasks.each k test task here there

pub loop-index-preserved : goal.loop-index-preserved
loop-index-preserved g c =
    let f = g.B.Body.pending in
    let k = c.loop-index.index in
    let i = c.loop-index.invariant in
    let tasks = c.loop-index.tasks in
    let tests = c.args.tests.now in
    let test = c.index-tests-index.result in
    let task = get_or tasks k c.index-tasks-index.result in
    let new = c.serve_task.new.task in
    let under : k < length tests = c.loop-index-test.true in
    let within : k < length tasks = omega (arith, i.tasks.long) in
    let here = slice_get_read tests (length tests) k test refl under c.index-tests-index.is in
    let there = slice_get-get_or tasks k c.index-tasks-index.result within in
    let first = c.args.tasks.now in
    let old = get-within first k (omega (arith, i.back.long, within)) in
    let s = c.serve_task.ensures in
    record {
      tasks =
          each-set (λ s p. IsTask f s c.args.thread p) tests tasks i.tasks k test new within here
          (served-is f test c.args.thread new s.served);
      done =
          below-set (λ s p. IsServedTask f s c.args.thread p) tests tasks k test new within here
          s.served i.done;
      back = each-set
          (λ one other. IsTaskBack f c.args.thread one other) first tasks i.back k old.0 new
          within old.1
          (back-along f c.args.thread old.0 task new (i.back.each k old.0 task old.1 there) s.back);
    }

pub returns : goal.returns
returns g c =
    let f = g.B.Body.pending in
    let i = c.loop-index.invariant in
    record {
      served =
          below-all (λ s p. IsServedTask f s c.args.thread p) c.args.tests.now c.loop-index.tasks
          c.loop-index.index c.loop-index-test.false i.done i.tasks.long;
      back = i.back;
    }
