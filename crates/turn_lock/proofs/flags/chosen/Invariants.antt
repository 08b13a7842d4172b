use Rattle.std.proofs.Common.{◌≡◌, ◌<◌, ◌≤◌, ℕ, false, cond, length, get_or}
use Rattle.turn_lock.proofs.flags.chosen.Given as goal

abbrev pub invariant-loop-i : goal.invariant-loop-i
invariant-loop-i l = (length l.flags ≡ 64)
    × ((t : ℕ) → t < l.i → get_or l.flags t false
    ≡ cond (get_or l.wanted t false) (get_or l.one t false) (get_or l.other t false))
    × ((t : ℕ) → l.i ≤ t → get_or l.flags t false ≡ get_or l.other t false)
