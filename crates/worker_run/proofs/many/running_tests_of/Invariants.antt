use Rattle.std.proofs.Common.{◌≡◌, length, vec_len}
use Rattle.std.specs.Prelude.{vec_capacity}
use Rattle.worker_run.proofs.Loops.{Along}
use Rattle.worker_run.proofs.many.running_tests_of.Given as goal

-- on the locks so far
abbrev pub invariant-loop-index : goal.invariant-loop-index
invariant-loop-index g l = record {
  long : vec_len l.running ≡ l.index;
  room : vec_capacity l.running ≡ length l.locks;
  locks : Along (λ lock test. test.lock.now ≡ lock) l.locks l.running.items;
  shares : Along (λ share test. (test.runners).value ≡ share.runners) l.shares l.running.items;
}
