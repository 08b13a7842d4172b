use Rattle.std.proofs.Common.{◌↔◌, All, drop}
use Rattle.trace_text.specs.Known.{IsKnownPlace}
use Rattle.c_texts.proofs.KnownPlaces.{rest_of}
use Rattle.c_texts.proofs.known.are_known_places.Given as goal

abbrev pub invariant-loop-thread : goal.invariant-loop-thread
invariant-loop-thread l =
    All (IsKnownPlace l.threads) (rest_of 0 l.bits l.lines)
    ↔ All (IsKnownPlace l.threads) (rest_of l.thread l.rest (drop l.thread l.lines))
