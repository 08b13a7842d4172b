-- The moments of a run's change points, as numbers (this project).
use Rattle.std.specs.Prelude.{◌≡◌, ◌≤◌, ℕ, List, length, map, All}
use Rattle.pct_ask.specs.declared.event.Event.{Event}
use Rattle.turn_book.specs.Posts.{schedule_of}
use Rattle.choices.specs.Moments.{moments_of}
use Rattle.c_values.specs.declared.event.PctEvent.{PctEvent}
use Rattle.c_values.specs.declared.moment.PctMoment.{PctMoment}
use Rattle.c_values.specs.Events.{AreSteps}
use Rattle.c_values.specs.Moments.{moment_numbers}
use Rattle.pct_ask.specs.declared.limits.TheConstants.{MAX_POINTS}

-- the moments of at most 7 change points, each at least 1, in the run of these steps
pub record AreMomentsOf (steps : List PctEvent) (points : List ℕ) (told : List PctMoment)
    : Type 0 where
  pub events : List Event
  pub run : AreSteps steps events
  pub few : length points ≤ MAX_POINTS
  pub some : All (λ point. 1 ≤ point) points
  pub moments : told ≡ map moment_numbers (moments_of (schedule_of events) points)
