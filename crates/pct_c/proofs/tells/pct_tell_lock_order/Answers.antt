use Rattle.c_tells.specs.Locks.{AreLocksOf}
use Rattle.pct_c.proofs.LockLaws.{tells_locks}
use Rattle.pct_c.proofs.tells.pct_tell_lock_order.Goals as goal

pub returns : goal.returns
returns c =
    let a = c.args in
    tells_locks
    (AreLocksOf a.deal.now a.variables.now a.semaphores.now a.barriers.now a.steps.now)
    c.locks_told.result c.put_locks.result a.mutexes.now c.put_locks.new.mutexes a.nestings.now
    c.put_locks.new.nestings c.locks_told.ensures c.put_locks.ensures
