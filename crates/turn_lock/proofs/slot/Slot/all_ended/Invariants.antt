use Rattle.std.proofs.Common.{◌≡◌, ◌<◌, ℕ}
use Rattle.turn_book.specs.Told.{standing_of}
use Rattle.turn_lock.specs.Rule.{HasFlag}
use Rattle.pct_ask.specs.declared.event.Standing.TheVariants as standings
use Rattle.turn_lock.proofs.slot.Slot.all_ended.Given as goal

abbrev pub invariant-loop-thread : goal.invariant-loop-thread
invariant-loop-thread g l = (t : ℕ) → t < l.thread → HasFlag l.serves t
    → standing_of l.self.book t ≡ standings.Ended
