use Rattle.std.proofs.Common.{◌≡◌, ℕ, length}
use Rattle.hb_race.specs.Table.{clock_entry}
use Rattle.hb_race.proofs.report.new_table.Given as goal

abbrev pub invariant-loop-row : goal.invariant-loop-row
invariant-loop-row l = record {
  long : length l.table.items ≡ l._row;
  zero : (row u : ℕ) → clock_entry l.table.items row u ≡ 0;
}
