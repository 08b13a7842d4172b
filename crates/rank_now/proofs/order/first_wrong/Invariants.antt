use Rattle.std.proofs.Common.{ℕ, ◌<◌}
use Rattle.rank_now.specs.Order.{IsWrongAt}
use Rattle.rank_now.proofs.order.first_wrong.Given as goal

abbrev pub invariant-loop-place : goal.invariant-loop-place
invariant-loop-place l = (earlier : ℕ) → earlier < l.place → ¬ IsWrongAt l.order earlier
