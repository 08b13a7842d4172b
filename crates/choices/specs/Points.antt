-- The change points that stand for the moments of a directed run (this project).
use Rattle.std.specs.Prelude.{ℕ, ◌==◌, if◌then◌else◌, List, length, map}
use Rattle.rank_now.specs.declared.moment.Moment.{Moment}
use Rattle.rank_now.specs.Positions.{greatest_where}
use Rattle.rank_now.specs.Rank.{is_moment}

-- the step of the schedule at which the moment occurs, and 0 where it doesn't
abbrev pub step_of_moment : List ℕ → Moment → ℕ
step_of_moment schedule moment =
    greatest_where (λ step. is_moment schedule step moment) (length schedule)

-- a moment's point, by the step at which it occurs
abbrev pub point_at : ℕ → ℕ → ℕ
point_at steps step = if step == 0 then steps else step

-- The moment's point: the step at which it occurs, and `steps` where it doesn't, since the run has
-- ended by then.
abbrev pub point_of_moment : List ℕ → ℕ → Moment → ℕ
point_of_moment schedule steps moment = point_at steps (step_of_moment schedule moment)

-- one point for each moment, in the order of the moments
abbrev pub points_of : List ℕ → ℕ → List Moment → List ℕ
points_of schedule steps events = map (point_of_moment schedule steps) events
