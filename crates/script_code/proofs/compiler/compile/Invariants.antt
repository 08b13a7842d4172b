use Rattle.std.proofs.Common.{◌≡◌, ℕ, ◌<◌, ◌||◌, ◌++◌, false}
use Rattle.std.specs.Prelude.{slice_index_or}
use Rattle.script_tree.specs.ScriptSeen.{plain_script}
use Rattle.script_tree.specs.Posts.{is_held}
use Rattle.script_code.specs.Operations.{listings}
use Rattle.script_code.specs.Layout.{code_from, script_code}
use Rattle.script_code.proofs.Threads.{threads_from, starts_from}
use Rattle.script_code.proofs.compiler.compile.Given as goal

-- the threads that are marked, and those that later threads start, are the ones that are held
abbrev pub invariant-loop-started : goal.invariant-loop-started
invariant-loop-started l = (t : ℕ) → t < 64
    → (slice_index_or l.held t false || starts_from l.script l.started-index t)
    ≡ is_held (plain_script l.script) t

-- the lists that are made, and those that aren't yet, are all
abbrev pub invariant-loop-t : goal.invariant-loop-t
invariant-loop-t l =
    listings l.threads ++ code_from (plain_script l.script) l.t (threads_from l.script l.t)
    ≡ script_code (plain_script l.script)
