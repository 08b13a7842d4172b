use Rattle.std.proofs.Common.{List, length, sym, ap, subst, arith}
use Rattle.worker_run.specs.Batches.{AreBack}
use Rattle.worker_run.specs.declared.batch.Task.{Task}
use Rattle.worker_run.proofs.Backs.{back-same}
use Rattle.worker_run.proofs.Ends.{written}
use Rattle.worker_run.proofs.workers.serve_if.Goals as goal

pub returns-then-load : goal.returns-then-load
returns-then-load g c =
    let new = c.serve_tasks.new.tasks in
    let w = written c.args.tasks.len new c.args.tasks.items
    (omega (
      arith,
      c.serve_tasks.ensures.served.long,
      ap length c.as_slice.ensures.value,
      c.requires.long,
      c.args.tasks.ok.0,
    )) in
    let A : List (Task g.row.P.Denot g.row.B.Denot g.P.Policy)
    × List (Task g.row.P.Denot g.row.B.Denot g.P.Policy) → Type 0 =
    λ p. AreBack g.B.Body.pending c.args.thread p.0 p.1 in
    subst A (λ i. (c.as_mut_slice.ensures.value i, sym w i)) c.serve_tasks.ensures.back

pub returns-else-load : goal.returns-else-load
returns-else-load g c = back-same g.B.Body.pending c.args.thread c.args.tasks.items
