-- The races of a run, as numbers (this project).
use Rattle.std.specs.Prelude.{◌≡◌, ℤ, List, map}
use Rattle.pct_ask.specs.declared.deal.Deal.{Deal}
use Rattle.pct_ask.specs.declared.event.Event.{Event}
use Rattle.hb_race.specs.declared.race.Race.{Race}
use Rattle.hb_race.specs.Races.{AreRaces}
use Rattle.c_values.specs.declared.deal.PctDeal.{PctDeal}
use Rattle.c_values.specs.declared.event.PctEvent.{PctEvent}
use Rattle.c_tells.specs.declared.races.PctRace.{PctRace}
use Rattle.c_tells.specs.Runs.{SayRun}

-- the numbers of a race
abbrev pub race_numbers : Race → PctRace
race_numbers race = record { variable = race.var; first = race.first; second = race.second }

-- the races of the run of these steps
pub record AreRacesOf (counts : PctDeal) (vars sems barriers : List ℤ) (steps : List PctEvent)
    (told : List PctRace) : Type 0 where
  pub deal : Deal
  pub events : List Event
  pub run : SayRun counts vars sems barriers steps deal events
  pub races : List Race
  pub are : AreRaces events races
  pub told_are : told ≡ map race_numbers races
