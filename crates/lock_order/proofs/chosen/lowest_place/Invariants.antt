use Rattle.std.proofs.Common.{ℕ, ◌<◌, ◌≤◌, length, get_or}
use Rattle.lock_order.proofs.chosen.lowest_place.Given as goal

abbrev pub invariant-loop-place : goal.invariant-loop-place
invariant-loop-place l =
    (l.lowest < length l.ring) × ((earlier : ℕ) → earlier < l.place
    → get_or l.ring l.lowest 0 ≤ get_or l.ring earlier 0)
