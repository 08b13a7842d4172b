use Rattle.std.proofs.Common.{◌≡◌, ◌++◌, List, length, vec_len}
use Rattle.std.specs.Prelude.{vec_capacity}
use Rattle.std.specs.Vec.Iter.{into_iter_items, into_iter_len}
use Rattle.worker_run.specs.Tests.{IsRunOf}
use Rattle.worker_run.specs.declared.batch.Share.{Share}
use Rattle.worker_run.proofs.Loops.{Along}
use Rattle.worker_run.proofs.many.runs_of.Given as goal

-- of the locks so far
abbrev pub invariant-loop-lock : goal.invariant-loop-lock
invariant-loop-lock g l = record {
  locks : l.yielded ++ into_iter_items l.lock-iterator ≡ into_iter_items l.initial.lock-iterator;
  left : into_iter_len l.lock-iterator ≡ length (into_iter_items l.lock-iterator);
  shares : (done : List (Share g.row.P.Denot g.row.B.Denot g.P.Policy))
      × (done ++ into_iter_items l.others ≡ l.fn.shares.items) × (length done ≡ length l.yielded);
  long : vec_len l.runs ≡ length l.yielded;
  room : vec_capacity l.runs ≡ length l.fn.locks.items;
  runs : Along (IsRunOf g.B.Body.pending g.P.Policy.plan) l.tests.value.items l.runs.items;
}
