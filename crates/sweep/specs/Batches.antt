-- The runs of choices, which are made in batches, and what is counted of them (this project).
-- Nothing here is needed to read a public contract.
use Rattle.std.specs.Prelude.{◌≡◌, ◌≤◌, ◌<◌, ℕ, suc, List, [], ◌∷◌, length, take, drop, Some}
use Rattle.std.specs.Prelude.{slice_get}
use Rattle.script_code.specs.Listing.{listing}
use Rattle.worker_run.specs.Run.{Run}
use Rattle.worker_run.specs.Played.{IsRun}
use Rattle.worker_run.specs.declared.played.Played.{Played}
use Rattle.script_run.specs.Ready.{bodies_of_code}
use Rattle.script_run.specs.Batches.{Common}
use Rattle.failure_rank.specs.Growing.{IsTally}
use Rattle.failure_rank.specs.declared.tally.Tally.{Tally}
use Rattle.sweep.specs.declared.choice.Choice.{Choice}
use Rattle.sweep.specs.Rows.{SweepSetup, leads, choices_of}
use Rattle.sweep.specs.Weights.{weight, spread, often_in}
use Rattle.sweep.specs.declared.common.Sweep.{Sweep}
use Rattle.sweep.specs.declared.common.Reach.{Reach}
use Rattle.sweep.specs.declared.next.Counts.{Counts}
use Rattle.sweep.specs.declared.next.NextRuns.{NextRuns}

-- what the sweep's runs have in common
abbrev pub setup_of_sweep : Sweep → SweepSetup
setup_of_sweep sweep = record {
  deal = sweep.script.deal.now;
  bodies = bodies_of_code (listing sweep.script.code.now);
  many = sweep.points;
  steps = sweep.steps;
  limit = sweep.limit;
}

-- the same of the batches that they are made in
abbrev pub common_of_sweep : Sweep → Common
common_of_sweep sweep = record {
  code = listing sweep.script.code.now;
  deal = sweep.script.deal.now;
  limit = sweep.limit;
}

-- the choice stands at the place, from 0, among all
abbrev pub IsChoiceAt : SweepSetup → ℕ → Choice → Type 0
IsChoiceAt setup place choice = slice_get (choices_of setup) place ≡ Some choice

-- the run of the choice at the place, of at most so many steps as the limit says
pub record IsRunOfChoice (setup : SweepSetup) (place : ℕ) (played : Played) : Type 0 where
  pub choice : Choice
  pub at : IsChoiceAt setup place choice
  pub run : IsRun (leads setup choice.order choice.points) played.events played.outcome
  pub short : length played.events ≤ setup.limit

-- Each choice before the place is counted: its row as often as there are choices for which it
-- stands. None of their runs is longer than the longest.
pub record HasCounted (setup : SweepSetup) (reach : Reach) (tally : Tally) : Type 0 where
  pub some : 1 ≤ reach.longest
  pub short : (place : ℕ) (choice : Choice) (ran : Run) → place < reach.place
      → IsChoiceAt setup place choice → leads setup choice.order choice.points ≡ Some ran
      → length ran.0 ≤ reach.longest
  pub counted : IsTally (spread (often_in setup) setup 0 (take reach.place (choices_of setup)))
      tally

-- the choices from one place to before another have a point above the length
abbrev pub HavePointAbove : SweepSetup → ℕ → ℕ → ℕ → Type 0
HavePointAbove setup long from end =
    (place : ℕ) (choice : Choice) → from ≤ place → place < end → IsChoiceAt setup place choice
    → weight setup.steps long choice.points ≡ 0

-- places in their order, from one on to before another, between which all choices have a point
-- above the length
abbrev pub AreAhead : SweepSetup → ℕ → ℕ → List ℕ → ℕ → Type 0
AreAhead setup long from [] end = (from ≤ end) × HavePointAbove setup long from end
AreAhead setup long from (place ∷ places) end =
    (from ≤ place) × (place < end) × HavePointAbove setup long from place
    × AreAhead setup long (suc place) places end

-- ---- the choices that come next

-- the run of the one of this number among them
abbrev pub IsRunOfNext : NextRuns → ℕ → Played → Type 0
IsRunOfNext next i played = (place : ℕ) → slice_get next.ahead.now.places.items i ≡ Some place
    → IsRunOfChoice (setup_of_sweep next.sweep.now) place played

-- those before the one of this number are counted, and none was longer than the runs before them
pub record HasCountedNext (next : NextRuns) (counts : Counts) (i : ℕ) : Type 0 where
  pub same : counts.reach.longest ≡ next.before.longest
  pub from : next.before.place ≤ counts.reach.place
  pub ahead :
      AreAhead (setup_of_sweep next.sweep.now) next.before.longest counts.reach.place
      (drop i next.ahead.now.places.items) next.ahead.now.end
  pub counted : HasCounted (setup_of_sweep next.sweep.now) counts.reach counts.tally

-- some are counted, of which the last was longer
pub record HasCountedLonger (next : NextRuns) (counts : Counts) : Type 0 where
  pub within : counts.reach.place ≤ next.sweep.now.choices
  pub goes_on : next.before.place < counts.reach.place
  pub counted : HasCounted (setup_of_sweep next.sweep.now) counts.reach counts.tally
