use Rattle.std.proofs.Common.{take}
use Rattle.failure_rank.specs.Growing.{IsTally}
use Rattle.test_words.proofs.sweeps.tally_of.Given as goal

abbrev pub invariant-loop-row : goal.invariant-loop-row
invariant-loop-row l = IsTally (take l.row-index l.rows) l.tally
