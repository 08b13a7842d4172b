-- The failures of a campaign (this project): how often each came, and which to look at first.
use Rattle.std.specs.Prelude.{◌≡◌, ◌≢◌, ◌↔◌, ℕ, ◌<◌, ◌≤◌, List, length, filter, slice_get}
use Rattle.std.specs.Prelude.{Some, All, Any, AllPairs, Contains}
use Rattle.std.specs.List.{position_or_len}
use Rattle.std.specs.Option.{option_map}
use Rattle.pct_ask.specs.declared.event.Row.{Row}
use Rattle.pct_ask.specs.declared.verdict.Verdict.{Verdict}
use Rattle.pct_ask.specs.declared.verdict.Verdict.TheVariants.{Passed}
use Rattle.pct_ask.specs.SameVerdict.{same_verdict}
use Rattle.failure_rank.specs.declared.group.Group.{Group}

-- the rows that end with a verdict
abbrev pub rows_with : Verdict → List Row → List Row
rows_with verdict rows = filter (λ row. same_verdict verdict row.verdict) rows

-- some rows: how many they are, the least number of steps among them, and the seed of the first
pub record SumsUp (rows : List Row) (group : Group) : Type 0 where
  pub count : group.count ≡ length rows
  pub reached : Any (λ row. row.steps ≡ group.steps) rows
  pub least : All (λ row. group.steps ≤ row.steps) rows
  pub first : option_map (λ row. row.seed) (slice_get rows 0) ≡ Some group.first

-- a verdict other than Passed, and the rows that end with it
pub record IsGroup (rows : List Row) (group : Group) : Type 0 where
  pub failed : group.verdict ≢ Passed
  pub sums : SumsUp (rows_with group.verdict rows) group

-- where the earliest row with a verdict stands, from 0
abbrev pub earliest : List Row → Verdict → ℕ
earliest rows verdict = position_or_len (λ row. same_verdict verdict row.verdict) rows

-- What came more often stands before what came less often. Of failures that came as often the one
-- with fewer steps stands first, then that with the lower first seed, then that whose earliest row
-- comes first.
pub data RanksBefore (rows : List Row) (a b : Group) : Type 0 where
  MoreOften : (more : b.count < a.count) → RanksBefore rows a b
  Shorter : (often : a.count ≡ b.count) (shorter : a.steps < b.steps) → RanksBefore rows a b
  Lower : (often : a.count ≡ b.count) (long : a.steps ≡ b.steps) (lower : a.first < b.first)
      → RanksBefore rows a b
  Earlier : (often : a.count ≡ b.count) (long : a.steps ≡ b.steps) (seed : a.first ≡ b.first)
      (earlier : earliest rows a.verdict < earliest rows b.verdict) → RanksBefore rows a b

-- the groups of a campaign's rows, all of them, in their order
pub record IsRanking (rows : List Row) (groups : List Group) : Type 0 where
  pub members : (group : Group) → Contains groups group ↔ IsGroup rows group
  pub order : AllPairs (RanksBefore rows) groups
