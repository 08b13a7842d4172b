-- What is printed, with what is left, is all.
use Rattle.std.proofs.Common.{◌≡◌, ◌++◌, true, drop}
use Rattle.std.specs.List.{flat_map}
use Rattle.script_tree.specs.Seen.{statements}
use Rattle.script_tree.specs.Grammar.{statement_lines}
use Rattle.script_tree.specs.Printing.{printed_lines, are_ranged}
use Rattle.script_tree.proofs.printing_statements.+printing.Given as goal

abbrev pub invariant-push_statements-loop-stmt : goal.invariant-push_statements-loop-stmt
invariant-push_statements-loop-stmt l = record {
  written : l.out.items ++ printed_lines
      (flat_map (statement_lines l.names) (statements (drop l.stmt-index l.stmt-items)))
      ≡ l.fn.out.items ++ printed_lines
      (flat_map (statement_lines l.names) (statements l.stmt-items));
  ranged : are_ranged (flat_map (statement_lines l.names)
      (statements (drop l.stmt-index l.stmt-items))) ≡ true
      → are_ranged (flat_map (statement_lines l.names) (statements l.stmt-items)) ≡ true;
}
