use Rattle.std.proofs.Common.{◌≡◌, ◌+◌, true, List, Bool, set, sym, subst, arith}
use Rattle.turn_lock.specs.Rule.{first_threads}
use Rattle.turn_lock.proofs.FlagLists.{first-more}
use Rattle.turn_lock.proofs.flags.first_threads.Goals as goal

pub loop-thread-preserved : goal.loop-thread-preserved
loop-thread-preserved c =
    subst (λ (l : List Bool). set l c.loop-thread.thread true
    ≡ first_threads (c.loop-thread.thread + 1)) (sym c.loop-thread.invariant)
    (first-more c.loop-thread.thread (omega (arith, c.loop-thread-test.true, c.requires)))
