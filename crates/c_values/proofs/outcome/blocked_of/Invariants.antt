use Rattle.std.proofs.Common.{◌≡◌, ◌<◌, All, drop}
use Rattle.pct_ask.specs.Places.{places_from, known_lines}
use Rattle.c_values.proofs.BlockedPlaces.{with_rest}
use Rattle.c_values.proofs.outcome.blocked_of.Given as goal

abbrev pub invariant-loop-thread : goal.invariant-loop-thread
invariant-loop-thread l = record {
  same : places_from 0 (known_lines l.threads l.lines)
      ≡ with_rest l.blocked l.thread l.bits (drop l.thread l.lines);
  below : All (λ place. place.0 < l.thread) l.blocked;
}
