use Rattle.std.proofs.Common.{◌≡◌, map}
use Rattle.script_tree.specs.ScriptParts.{thread_text}
use Rattle.large_script.specs.Large.{workers}
use Rattle.large_script.proofs.large.threads.Given as goal

abbrev pub invariant-loop-thread : goal.invariant-loop-thread
invariant-loop-thread l = map thread_text l.threads.items ≡ workers l.many l.thread
