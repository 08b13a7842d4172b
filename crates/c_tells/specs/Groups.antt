-- Failures in groups, as numbers (this project's coding).
use Rattle.std.specs.Prelude.{◌≡◌, List, map}
use Rattle.pct_ask.specs.declared.event.Row.{Row}
use Rattle.pct_ask.specs.declared.verdict.Outcome.TheVariants.{Verdict as Ends}
use Rattle.failure_rank.specs.declared.group.Group.{Group}
use Rattle.failure_rank.specs.Groups.{IsRanking}
use Rattle.c_values.specs.declared.row.PctRow.{PctRow}
use Rattle.c_values.specs.Outcomes.{outcome_numbers}
use Rattle.c_values.specs.Rows.{AreRows}
use Rattle.c_tells.specs.declared.groups.PctGroup.{PctGroup}

-- the numbers of a group
abbrev pub group_numbers : Group → PctGroup
group_numbers group = record {
  verdict = outcome_numbers (Ends group.verdict);
  count = group.count;
  steps = group.steps;
  first = group.first;
}

-- the groups of the failures among these runs, in their order
pub record AreGroupsOf (numbers : List PctRow) (told : List PctGroup) : Type 0 where
  pub rows : List Row
  pub say : AreRows numbers rows
  pub groups : List Group
  pub ranking : IsRanking rows groups
  pub told_are : told ≡ map group_numbers groups
