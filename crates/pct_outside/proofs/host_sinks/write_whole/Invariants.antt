-- What is gone from the rest was appended.
use Rattle.std.proofs.Common.{◌≡◌, ℕ, List, ◌++◌}
use Rattle.std.specs.Io.KnownBytes.{Appends}
use Rattle.pct_outside.proofs.host_sinks.write_whole.Given as goal

abbrev pub invariant-loop : goal.invariant-loop
invariant-loop g l =
    (done : List ℕ) × (l.piece ≡ done ++ l.rest)
    × Appends (g.W.Write.contents l.initial.stream) (g.W.Write.contents l.stream) done
