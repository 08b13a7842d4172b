use Rattle.rank_now.proofs.Words.{AreBefore}
use Rattle.rank_now.proofs.above.first_above.Given as goal

abbrev pub invariant-loop-thread : goal.invariant-loop-thread
invariant-loop-thread l = AreBefore l.order l.thread-index l.above.items l.before
