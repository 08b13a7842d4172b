use Rattle.lock_order.proofs.Walks.{Walking}
use Rattle.lock_order.proofs.chosen.walk.Given as goal

abbrev pub invariant-loop-remaining : goal.invariant-loop-remaining
invariant-loop-remaining l = Walking l.nested l.remaining l.first l.walk.items l.fresh l.mutex

abbrev pub decreases-loop-remaining : goal.decreases-loop-remaining
decreases-loop-remaining l = l.fresh.bits
