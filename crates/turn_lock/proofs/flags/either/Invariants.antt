use Rattle.std.proofs.Common.{◌≡◌}
use Rattle.turn_lock.proofs.FlagLists.{mixed}
use Rattle.turn_lock.proofs.flags.either.Given as goal

abbrev pub invariant-loop-i : goal.invariant-loop-i
invariant-loop-i l = l.both ≡ mixed l.i l.one l.other
