use Rattle.std.proofs.Common.{◌≡◌, ◌++◌}
use Rattle.script_tree.specs.Seen.{statements}
use Rattle.large_script.specs.Large.{sums}
use Rattle.large_script.proofs.large.push_sums.Given as goal

abbrev pub invariant-loop-var : goal.invariant-loop-var
invariant-loop-var l = statements l.stmts.items ≡ statements l.fn.stmts.items ++ sums l.var
