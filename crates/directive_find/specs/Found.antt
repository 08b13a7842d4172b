-- A short directive for a failing run (this project).
use Rattle.std.specs.Prelude.{◌≡◌, ◌≢◌, ℕ, ◌<◌, ◌≤◌, List, length, remove, All, Some}
use Rattle.pct_ask.specs.declared.Deal.{Deal}
use Rattle.pct_ask.specs.declared.event.Event.{Event}
use Rattle.pct_ask.specs.declared.verdict.Verdict.{Verdict}
use Rattle.pct_ask.specs.declared.verdict.Verdict.TheVariants.{Passed}
use Rattle.pct_ask.specs.Bodies.{Pending}
use Rattle.rank_now.specs.declared.moment.Moment.{Moment}
use Rattle.turn_book.specs.Posts.{schedule_of}
use Rattle.worker_run.specs.Run.{run, directed_run}
use Rattle.choices.specs.Moments.{moments_of, MomentFits}
use Rattle.directive_find.specs.Reduced.{HasVerdict, LeadsTo, Reduces}
use Rattle.directive_find.specs.declared.finding.FoundOut.{FoundOut}
use Rattle.directive_find.specs.declared.finding.FoundOut.TheVariants.{Events, Passes}

-- the directed run of the moments has another verdict
pub record HasOther (deal : Deal) (bodies : List Pending) (order : List ℕ) (limit : ℕ)
    (verdict : Verdict) (moments : List Moment) : Type 0 where
  pub made : List Event
  pub other : Verdict
  pub is_directed : directed_run deal bodies order moments limit ≡ Some (made, other)
  pub apart : other ≢ verdict

-- The run of the order and points has this verdict, which isn't Passed; the directed run of its
-- moments is the same run; these moments are what is left of all of them, reduced with the verdict.
-- Their directed run has the verdict and so many steps, and without any single one of them it has
-- another verdict. There are no more of them than points, and each is a step that there may be.
pub record IsFinding (deal : Deal) (bodies : List Pending) (order points : List ℕ) (limit : ℕ)
    (moments : List Moment) (verdict : Verdict) (steps : ℕ) : Type 0 where
  pub made : List Event
  pub is_run : run deal bodies order points limit ≡ Some (made, verdict)
  pub fails : verdict ≢ Passed
  pub same_run :
      directed_run deal bodies order (moments_of (schedule_of made) points) limit
      ≡ Some (made, verdict)
  pub reduced : Reduces (HasVerdict deal bodies order limit verdict)
      (moments_of (schedule_of made) points) moments
  pub leads : LeadsTo deal bodies order limit verdict moments steps
  pub needed : (place : ℕ) → place < length moments
      → HasOther deal bodies order limit verdict (remove moments place)
  pub few : length moments ≤ length points
  pub fit : All (MomentFits deal.threads limit) moments

-- The run of the order and points has passed, after so many steps, and the directed run of its
-- moments is the same run.
pub record IsPass (deal : Deal) (bodies : List Pending) (order points : List ℕ) (limit steps : ℕ)
    : Type 0 where
  pub made : List Event
  pub is_run : run deal bodies order points limit ≡ Some (made, Passed)
  pub same_run :
      directed_run deal bodies order (moments_of (schedule_of made) points) limit
      ≡ Some (made, Passed)
  pub number : steps ≡ length made

-- What each answer says: the run fails, and these moments lead to its verdict and are all needed;
-- or it passes, after so many steps.
abbrev pub Finds : Deal → List Pending → List ℕ → List ℕ → ℕ → FoundOut → Type 0
Finds deal bodies order points limit (Events moments verdict steps) =
    IsFinding deal bodies order points limit moments verdict steps
Finds deal bodies order points limit (Passes steps) = IsPass deal bodies order points limit steps
