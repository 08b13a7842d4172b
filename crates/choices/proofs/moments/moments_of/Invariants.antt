use Rattle.std.proofs.Common.{◌≡◌, ◌++◌, drop}
use Rattle.turn_book.specs.Posts.{schedule_of}
use Rattle.choices.specs.Moments.{moments_of}
use Rattle.choices.proofs.moments.moments_of.Given as goal

-- the moments so far, and those of the points that are left
abbrev pub invariant-loop-place : goal.invariant-loop-place
invariant-loop-place l =
    l.moments ++ moments_of (schedule_of l.events) (drop l.place l.points)
    ≡ moments_of (schedule_of l.events) l.points
