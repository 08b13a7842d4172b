-- The change points that stand for moments, as numbers (this project).
use Rattle.std.specs.Prelude.{◌≡◌, ◌≤◌, ℕ, List, length, map}
use Rattle.pct_ask.specs.declared.event.Event.{Event}
use Rattle.turn_book.specs.Posts.{schedule_of}
use Rattle.choices.specs.Points.{points_of}
use Rattle.c_values.specs.declared.event.PctEvent.{PctEvent}
use Rattle.c_values.specs.declared.moment.PctMoment.{PctMoment}
use Rattle.c_values.specs.Events.{AreSteps}
use Rattle.c_values.specs.Moments.{moment_said}
use Rattle.pct_ask.specs.declared.limits.TheConstants.{MAX_POINTS, MAX_STEPS}

-- one change point for each of at most 7 moments, in the run of these steps; `most` is in
-- 1..100000,
-- and there is room for just so many
pub record ArePointsOf (steps : List PctEvent) (most : ℕ) (moments : List PctMoment) (room : ℕ)
    (points : List ℕ) : Type 0 where
  pub events : List Event
  pub run : AreSteps steps events
  pub some : 1 ≤ most
  pub few_steps : most ≤ MAX_STEPS
  pub few : length moments ≤ MAX_POINTS
  pub whole : length moments ≡ room
  pub points_are : points ≡ points_of (schedule_of events) most (map moment_said moments)
