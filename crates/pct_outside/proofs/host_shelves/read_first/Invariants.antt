-- What was read stands at the front of what the reader had.
use Rattle.std.proofs.Common.{◌≤◌, vec_len}
use Rattle.std.specs.Io.KnownBytes.{Consumes}
use Rattle.pct_outside.proofs.host_shelves.read_first.Given as goal

abbrev pub invariant-loop : goal.invariant-loop
invariant-loop g l =
    (vec_len l.bytes ≤ l.most) × Consumes (g.F.Read.remaining l.initial.file)
    (g.F.Read.remaining l.file) l.bytes.items
