use Rattle.std.proofs.Common.{◌≡◌, ◌<◌, ℕ, Some}
use Rattle.pct_ask.specs.Places.{line_of_thread, AreRising}
use Rattle.trace_text.specs.Known.{IsKnownPlace}
use Rattle.kit_text.proofs.known.are_known_places.Given as goal

-- the threads before this one are known
abbrev pub invariant-loop-thread : goal.invariant-loop-thread
invariant-loop-thread l = record {
  known : (k line : ℕ) → k < l.thread → line_of_thread k l.blocked ≡ Some line
      → IsKnownPlace l.threads (k, line);
  rising : 0 < l.thread → AreRising l.blocked;
}
