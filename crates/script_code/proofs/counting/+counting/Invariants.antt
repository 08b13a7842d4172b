use Rattle.std.proofs.Common.{◌≡◌, ◌+◌}
use Rattle.script_tree.specs.Seen.{block}
use Rattle.script_tree.specs.Fitting.{counts_of}
use Rattle.script_code.specs.Rest.{from}
use Rattle.script_code.proofs.counting.+counting.Given as goal

abbrev pub decreases-count_of : goal.decreases-count_of
decreases-count_of l = goal.size-count_of l

abbrev pub decreases-counts_of : goal.decreases-counts_of
decreases-counts_of l = goal.size-counts_of l

-- what is counted and what isn't yet are all
abbrev pub invariant-counts_of-loop-stmt : goal.invariant-counts_of-loop-stmt
invariant-counts_of-loop-stmt l =
    l.sum + counts_of (from l.body l.stmt-index) ≡ counts_of (block l.body)
