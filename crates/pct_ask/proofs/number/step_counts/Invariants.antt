use Rattle.std.proofs.Common.{◌≡◌, ◌++◌, length}
use Rattle.std.specs.Option.{option_map}
use Rattle.pct_ask.specs.Numbers.{step_counts}
use Rattle.pct_ask.specs.Pieces.{seen}
use Rattle.pct_ask.proofs.number.step_counts.Given as goal

-- the counts so far and those of the rest are those of the words
abbrev pub invariant-loop-rest : goal.invariant-loop-rest
invariant-loop-rest l =
    option_map (λ ns. l.counts ++ ns) (step_counts (seen l.rest)) ≡ step_counts (seen l.words)

abbrev pub decreases-loop-rest : goal.decreases-loop-rest
decreases-loop-rest l = length l.rest
