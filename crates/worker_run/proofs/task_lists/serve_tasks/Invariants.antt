use Rattle.worker_run.specs.Batch.{IsServedTask}
use Rattle.worker_run.specs.Batches.{AreTasks, AreBack}
use Rattle.worker_run.proofs.Loops.{Below}
use Rattle.worker_run.proofs.task_lists.serve_tasks.Given as goal

abbrev pub invariant-loop-index : goal.invariant-loop-index
invariant-loop-index g l = record {
  tasks : AreTasks g.B.Body.pending l.tests l.thread l.tasks;
  done : Below l.index (λ test task. IsServedTask g.B.Body.pending test l.thread task) l.tests
      l.tasks;
  back : AreBack g.B.Body.pending l.thread l.fn.tasks l.tasks;
}
