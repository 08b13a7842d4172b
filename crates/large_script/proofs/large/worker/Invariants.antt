use Rattle.std.proofs.Common.{◌≡◌}
use Rattle.script_tree.specs.Seen.{statements}
use Rattle.large_script.specs.Large.{pieces}
use Rattle.large_script.proofs.large.worker.Given as goal

abbrev pub invariant-loop-place : goal.invariant-loop-place
invariant-loop-place l = statements l.stmts.items ≡ pieces l.thread l.place
