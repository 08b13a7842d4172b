use Rattle.rank_now.proofs.Words.{AreCompared}
use Rattle.rank_now.proofs.above.compare_again.Given as goal

abbrev pub invariant-loop-other : goal.invariant-loop-other
invariant-loop-other l = AreCompared l.values l.thread l.other l.above l.greater
