use Rattle.std.proofs.Common.{◌≡◌, ◌++◌}
use Rattle.script_tree.specs.Seen.{statements}
use Rattle.large_script.specs.Large.{joins_of}
use Rattle.large_script.proofs.large.push_joins.Given as goal

abbrev pub invariant-loop-thread : goal.invariant-loop-thread
invariant-loop-thread l =
    statements l.stmts.items ≡ statements l.fn.stmts.items ++ joins_of l.thread
