use Rattle.std.proofs.Common.{◌≡◌, ◌++◌, length}
use Rattle.std.specs.Vec.Iter.{into_iter_items, into_iter_len}
use Rattle.turn_lock.specs.Views.{HasSeat}
use Rattle.worker_run.specs.Batch.{Each}
use Rattle.worker_run.specs.Tests.{IsLockOf, IsFirstShare}
use Rattle.worker_run.proofs.many.set_up_all.Given as goal

-- of the tests so far
abbrev pub invariant-loop-test : goal.invariant-loop-test
invariant-loop-test g l = record {
  tests : l.yielded ++ into_iter_items l.test-iterator ≡ into_iter_items l.initial.test-iterator;
  long : into_iter_len l.test-iterator ≡ length (into_iter_items l.test-iterator);
  locks : Each (IsLockOf g.P.Policy.plan) l.yielded l.locks.items;
  shares : Each (IsFirstShare g.P.Policy.plan) l.yielded l.shares.items;
  of : Each (λ lock share. HasSeat lock share.seat) l.locks.items l.shares.items;
  by : l.serving.by ≡ l.initial.serving.by;
}
