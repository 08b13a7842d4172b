use Rattle.std.proofs.Common.{◌≡◌, ◌≤◌, take}
use Rattle.pct_top.specs.commands.Big.{failures}
use Rattle.pct_top.proofs.commands.big.failures.Given as goal

-- those among the rows so far
abbrev pub invariant-loop-row : goal.invariant-loop-row
invariant-loop-row l =
    (l.failures ≡ failures (take l.row-index l.rows)) × (l.failures ≤ l.row-index)
