-- What is printed, with what is left, is all.
use Rattle.std.proofs.Common.{◌≡◌, ◌++◌, true, drop, map}
use Rattle.script_tree.specs.ScriptParts.{thread_text}
use Rattle.script_tree.specs.Grammar.{all_thread_lines}
use Rattle.script_tree.specs.Printing.{printed_lines, are_ranged}
use Rattle.script_tree.proofs.printing.push_threads.Given as goal

abbrev pub invariant-loop-place : goal.invariant-loop-place
invariant-loop-place l = record {
  written : l.out.items ++ printed_lines
      (all_thread_lines l.names (drop l.place l.names.threads)
      (map thread_text (drop l.place l.threads)))
      ≡ l.fn.out.items
      ++ printed_lines (all_thread_lines l.names l.names.threads (map thread_text l.threads));
  ranged : are_ranged (all_thread_lines l.names (drop l.place l.names.threads)
      (map thread_text (drop l.place l.threads))) ≡ true
      → are_ranged (all_thread_lines l.names l.names.threads (map thread_text l.threads)) ≡ true;
}
