use Rattle.std.proofs.Common.{List, ◌++◌, replicate}
use Rattle.pct_ask.specs.declared.event.Row.{Row}
use Rattle.failure_rank.specs.Growing.{IsTally}
use Rattle.sweep.proofs.batches.add_copies.Given as goal

-- so many are counted
abbrev pub invariant-loop-copy : goal.invariant-loop-copy
invariant-loop-copy l =
    (rows : List Row) → IsTally rows l.fn.tally → IsTally (rows ++ replicate l._copy l.row) l.tally
