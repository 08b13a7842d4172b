use Rattle.std.proofs.Common.{take}
use Rattle.failure_rank.specs.Growing.{IsTally}
use Rattle.failure_rank.proofs.ranking.tally_of.Given as goal

abbrev pub invariant-loop-row : goal.invariant-loop-row
invariant-loop-row l = IsTally (take l.row-index l.rows) l.tally
