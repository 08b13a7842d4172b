-- What a sweep answers (this project).
use Rattle.std.specs.Prelude.{◌≡◌, ◌≢◌, ℕ, ◌+◌, ◌<◌, ◌≤◌, ◌↔◌, List, length, map, Some, Contains}
use Rattle.std.specs.Prelude.{All, slice_get, sum_by}
use Rattle.pct_ask.specs.declared.event.Event.{Event}
use Rattle.pct_ask.specs.declared.event.Row.{Row}
use Rattle.pct_ask.specs.declared.verdict.Verdict.{Verdict}
use Rattle.pct_ask.specs.declared.verdict.Verdict.TheVariants.{Passed}
use Rattle.failure_rank.specs.declared.group.Group.{Group}
use Rattle.failure_rank.specs.Groups.{rows_with, IsRanking}
use Rattle.choices.specs.Counting.{hits}
use Rattle.rank_now.specs.Order.{IsOrderOf}
use Rattle.choices.specs.Laws.{ArePoints}
use Rattle.sweep.specs.Choices.{choice_of, choice_count, most_choices}
use Rattle.sweep.specs.declared.choice.Choice.{Choice}
use Rattle.sweep.specs.Rows.{SweepSetup, leads, rows_from, choices_of}
use Rattle.sweep.specs.declared.sweeping.Swept.{Swept}
use Rattle.sweep.specs.declared.sweeping.Answer.{Answer}
use Rattle.sweep.specs.declared.sweeping.Answer.TheVariants.{Whole, TooMany}

-- There is a row for each choice, in the order of the choices; the groups are those of the rows,
-- ranked as a campaign's are, and so many rows passed.
pub record IsSweep (setup : SweepSetup) (swept : Swept) : Type 0 where
  pub choices : swept.choices ≡ choice_count setup.deal.threads setup.steps setup.many
  pub rows : List Row
  pub are : map Some rows ≡ rows_from setup 0 (choices_of setup)
  pub ranked : IsRanking rows swept.groups
  pub passed : swept.passed ≡ length (rows_with Passed rows)

-- What is answered: the sweep of all choices, or that there are too many of them.
abbrev pub Sweeps : SweepSetup → Answer → Type 0
Sweeps setup (Whole swept) =
    (choice_count setup.deal.threads setup.steps setup.many ≤ most_choices) × IsSweep setup swept
Sweeps setup TooMany =
    most_choices < choice_count setup.deal.threads setup.steps setup.many

-- ---- the same, without rows

-- how many choices have the verdict
abbrev pub hits_of : SweepSetup → Verdict → ℕ
hits_of setup verdict =
    hits (leads setup) setup.deal.threads setup.steps setup.many verdict

-- the choice's run has the verdict, and so many steps
pub record RunsTo (setup : SweepSetup) (choice : Choice) (verdict : Verdict) (steps : ℕ) : Type
    0 where
  pub made : List Event
  pub is_run : leads setup choice.order choice.points ≡ Some (made, verdict)
  pub number : steps ≡ length made

-- A verdict other than Passed, which some choice has: how many choices have it, the number of steps
-- of the shortest of their runs, and the place of the first of them in the list of choices.
pub record IsFailure (setup : SweepSetup) (group : Group) : Type 0 where
  pub failed : group.verdict ≢ Passed
  pub count : group.count ≡ hits_of setup group.verdict
  pub some : 1 ≤ group.count
  pub reached : (place : ℕ) × (choice : Choice)
      × (slice_get (choices_of setup) place ≡ Some choice)
      × RunsTo setup choice group.verdict group.steps
  pub least : (place : ℕ) (choice : Choice) (steps : ℕ)
      → slice_get (choices_of setup) place ≡ Some choice
      → RunsTo setup choice group.verdict steps → group.steps ≤ steps
  pub first : (choice : Choice) × (steps : ℕ)
      × (slice_get (choices_of setup) group.first ≡ Some choice)
      × RunsTo setup choice group.verdict steps
  pub none_before : (place : ℕ) (choice : Choice) (steps : ℕ) → place < group.first
      → slice_get (choices_of setup) place ≡ Some choice
      → RunsTo setup choice group.verdict steps → ⊥

-- every choice passes
abbrev pub AllPass : SweepSetup → Type 0
AllPass setup =
    (order points : List ℕ) → IsOrderOf setup.deal.threads order
    → ArePoints setup.steps setup.many points
    → (steps : ℕ) × RunsTo setup (choice_of order points) Passed steps

-- The groups are the failures; those that passed are as many as choices that pass, and with the
-- groups' counts they are all choices. There is no group exactly where every choice passes.
pub record IsCounted (setup : SweepSetup) (swept : Swept) : Type 0 where
  pub each : All (IsFailure setup) swept.groups
  pub every : (verdict : Verdict) → verdict ≢ Passed → 1 ≤ hits_of setup verdict
      → (group : Group) × Contains swept.groups group × (group.verdict ≡ verdict)
  pub passed : swept.passed ≡ hits_of setup Passed
  pub whole : swept.passed + sum_by (λ (group : Group). group.count) swept.groups
      ≡ choice_count setup.deal.threads setup.steps setup.many
  pub none : (length swept.groups ≡ 0) ↔ AllPass setup

-- For all tests: what a sweep may answer is so counted.
abbrev pub SweepsAreCounted : Type 0
SweepsAreCounted =
    (setup : SweepSetup) (swept : Swept) → IsSweep setup swept → IsCounted setup swept
