-- The groups while rows are counted, in the order in which their verdicts first came.
use Rattle.std.specs.Prelude.{◌≡◌, ◌≢◌, ◌+◌, ◌<◌, min, List, [], length, Option, Some, None, All}
use Rattle.std.specs.Prelude.{AllPairs}
use Rattle.std.specs.Map.{lookup, keys_of}
use Rattle.pct_ask.specs.declared.event.Row.{Row}
use Rattle.pct_ask.specs.declared.verdict.Verdict.{Verdict}
use Rattle.pct_ask.specs.declared.verdict.Verdict.TheVariants.{Passed}
use Rattle.pct_ask.specs.SameVerdict.{same_verdict}
use Rattle.failure_rank.specs.Groups.{rows_with, earliest, IsGroup}
use Rattle.failure_rank.specs.declared.group.Group.{Group}
use Rattle.failure_rank.specs.declared.tally.Tally.{Tally}

-- of one row
abbrev pub group_of : Row → Group
group_of row = record { verdict = row.verdict; count = 1; steps = row.steps; first = row.seed }

-- with one later row
abbrev pub with_row : Group → Row → Group
with_row group row = record group { count = group.count + 1; steps = min group.steps row.steps }

-- with one row: what is there with one more, or that of the row alone
abbrev pub grown : Option Group → Row → Group
grown None row = group_of row
grown (Some group) row = with_row group row

-- a verdict with its group
pub record IsEntry (rows : List Row) (entry : Verdict × Group) : Type 0 where
  pub own : entry.1.verdict ≡ entry.0
  pub group : IsGroup rows entry.1

-- The groups of the rows, each behind its verdict, in the order in which the verdicts first came. A
-- verdict but passed that has no group has no row.
pub record AreRowsCounted (rows : List Row) (entries : List (Verdict × Group)) : Type 0 where
  pub each : All (IsEntry rows) entries
  pub order : AllPairs (λ v w. earliest rows v < earliest rows w) (keys_of entries)
  pub all : (verdict : Verdict) → verdict ≢ Passed
      → lookup (same_verdict verdict) entries ≡ None → rows_with verdict rows ≡ []

-- the rows were counted: those that passed, and those of each failure
pub record IsTally (rows : List Row) (tally : Tally) : Type 0 where
  pub passed : tally.passed ≡ length (rows_with Passed rows)
  pub failures : AreRowsCounted rows tally.failures.entries
