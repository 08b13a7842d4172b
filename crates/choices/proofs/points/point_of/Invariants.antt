use Rattle.std.proofs.Common.{◌≡◌, ◌≤◌}
use Rattle.rank_now.specs.Positions.{greatest_where}
use Rattle.rank_now.specs.Rank.{own_steps, is_moment}
use Rattle.turn_book.specs.Posts.{schedule_of}
use Rattle.choices.specs.Points.{point_at}
use Rattle.choices.proofs.points.point_of.Given as goal

-- the thread's own steps so far, and the moment's point by them
abbrev pub invariant-loop-place : goal.invariant-loop-place
invariant-loop-place l = record {
  own : l.own ≡ own_steps (schedule_of l.events) l.moment.thread l.place;
  few : l.own ≤ l.place;
  point : l.point ≡ point_at l.steps
      (greatest_where (λ step. is_moment (schedule_of l.events) step l.moment) l.place);
}
