-- A directed run as the run of an order and change points (this project).
use Rattle.std.specs.Prelude.{◌≡◌, ℕ, ◌<◌, ◌≤◌, List, length, All, Some}
use Rattle.pct_ask.specs.declared.Deal.{Deal}
use Rattle.pct_ask.specs.declared.event.Event.{Event}
use Rattle.pct_ask.specs.declared.verdict.Verdict.{Verdict}
use Rattle.pct_ask.specs.declared.verdict.Outcome.TheVariants.{Verdict as Ends}
use Rattle.pct_ask.specs.Bodies.{Pending}
use Rattle.rank_now.specs.declared.moment.Moment.{Moment}
use Rattle.turn_book.specs.Posts.{schedule_of}
use Rattle.worker_run.specs.Run.{run, directed_run}
use Rattle.worker_run.specs.declared.played.Played.{Played}
use Rattle.choices.specs.PointLists.{IsWithin}
use Rattle.choices.specs.Points.{points_of}
use Rattle.directive_run.specs.declared.answers.Exposed.{Exposed}
use Rattle.directive_run.specs.declared.answers.Exposed.TheVariants.{Points, TooLong}

-- The directed run was played, and has at most so many steps. The points are those of its moments,
-- each is one of these steps, and the run of the order and these points has the same steps and the
-- same verdict.
pub record IsExposed (deal : Deal) (bodies : List Pending) (order : List ℕ) (moments : List Moment)
    (steps limit : ℕ) (points : List ℕ) (played : Played) : Type 0 where
  pub verdict : Verdict
  pub ends : played.outcome ≡ Ends verdict
  pub is_directed : directed_run deal bodies order moments limit ≡ Some (played.events, verdict)
  pub short : length played.events ≤ steps
  pub points_are : points ≡ points_of (schedule_of played.events) steps moments
  pub within : All (IsWithin steps) points
  pub is_run : run deal bodies order points limit ≡ Some (played.events, verdict)

-- The directed run has this number of steps, and that is more than there may be.
pub record RunsTooLong (deal : Deal) (bodies : List Pending) (order : List ℕ)
    (moments : List Moment) (steps limit many : ℕ) : Type 0 where
  pub made : List Event
  pub verdict : Verdict
  pub is_directed : directed_run deal bodies order moments limit ≡ Some (made, verdict)
  pub number : many ≡ length made
  pub long : steps < many

-- What each answer says: the directed run is that of the order and these points, or it has this
-- number of steps, more than there may be.
abbrev pub Exposes : Deal → List Pending → List ℕ → List Moment → ℕ → ℕ → Exposed → Type 0
Exposes deal bodies order moments steps limit (Points points played) =
    IsExposed deal bodies order moments steps limit points played
Exposes deal bodies order moments steps limit (TooLong many) =
    RunsTooLong deal bodies order moments steps limit many
