use Rattle.std.proofs.Common.{◌≡◌, take}
use Rattle.turn_book.specs.Posts.{schedule_of}
use Rattle.choices.specs.Points.{points_of}
use Rattle.choices.proofs.points.points_of.Given as goal

-- the points of the moments so far
abbrev pub invariant-loop-moment : goal.invariant-loop-moment
invariant-loop-moment l =
    l.points ≡ points_of (schedule_of l.events) l.steps (take l.moment-index l.moments)
