use Rattle.std.proofs.Common.{◌≡◌, ℕ, ◌+◌, ◌-◌, ◌<◌, length, get_or}
use Rattle.rank_now.proofs.ranks.first_values.Given as goal

abbrev pub invariant-loop-place : goal.invariant-loop-place
invariant-loop-place l =
    (length l.values.items ≡ length l.order)
    × ((earlier : ℕ) → earlier < l.place
    → get_or l.values.items (get_or l.order earlier 0) 0 ≡ l.count + length l.order - earlier)
