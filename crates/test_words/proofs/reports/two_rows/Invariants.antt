use Rattle.std.specs.Prelude.{All}
use Rattle.std.proofs.Common.{◌≡◌}
use Rattle.pct_ask.specs.declared.event.Row.{Row}
use Rattle.test_words.proofs.reports.two_rows.Given as goal

abbrev pub invariant-loop-seed : goal.invariant-loop-seed
invariant-loop-seed l = All (λ (row : Row). row.verdict ≡ l.verdict) l.rows
