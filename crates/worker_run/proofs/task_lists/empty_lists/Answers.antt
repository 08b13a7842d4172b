use Rattle.std.proofs.Common.{◌+◌, List, Vec, Global, sym, ap, subst, ◌∙◌}
use Rattle.worker_run.specs.Batches.{AreEmptyLists}
use Rattle.worker_run.specs.declared.batch.Task.{Task}
use Rattle.worker_run.proofs.Loops.{no-lists, lists-more}
use Rattle.worker_run.proofs.task_lists.empty_lists.Goals as goal

pub loop-thread-init : goal.loop-thread-init
loop-thread-init g c = record {
  long = c.in_ok-lists.ensures.len;
  capacity = c.in_ok-lists.ensures.exact;
  lists = no-lists c.args.tests c.in_ok-lists.lists.items c.in_ok-lists.ensures.items;
}

pub loop-thread-preserved : goal.loop-thread-preserved
loop-thread-preserved g c =
    let i = c.loop-thread.invariant in
    let lists = c.loop-thread.lists.items in
    let list = c.in_ok-list.list in
    let R : List (Vec (Task g.row.P.Denot g.row.B.Denot g.P.Policy) Global) → Type 0 =
    λ l. AreEmptyLists c.args.tests l in
    record {
      long = c.push_reserved.ensures.len ∙ ap (λ n. n + 1) i.long;
      capacity = c.push_reserved.ensures.capacity ∙ i.capacity;
      lists = subst R (sym c.push_reserved.ensures.items)
          (lists-more c.args.tests lists list i.lists
          (record { empty = c.in_ok-list.ensures.items; capacity = c.in_ok-list.ensures.exact }));
    }
