use Rattle.std.proofs.Common.{◌≡◌, ◌≤◌, ℕ, List, ◌++◌, length}
use Rattle.pct_outside.specs.Puts.{IsPut}
use Rattle.pct_top.proofs.printing.put_lines.Given as goal

-- the text is what was put and what is left
abbrev pub invariant-loop-rest : goal.invariant-loop-rest
invariant-loop-rest g l =
    (done : List ℕ) × (l.text ≡ done ++ l.rest)
    × IsPut done (g.O.Sink.told l.fn.out) (g.O.Sink.told l.out)
    × ((g.O.Sink.told l.fn.out).faults ≤ (g.O.Sink.told l.out).faults)
    × ((g.O.Sink.told l.fn.out).shorts ≤ (g.O.Sink.told l.out).shorts)

abbrev pub decreases-loop-rest : goal.decreases-loop-rest
decreases-loop-rest g l = length l.rest
