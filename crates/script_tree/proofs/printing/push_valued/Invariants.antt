-- What is printed, with what is left, is all.
use Rattle.std.proofs.Common.{◌≡◌, ◌++◌, drop, take, map, All}
use Rattle.std.specs.Prelude.{FitsSigned}
use Rattle.std.specs.Int.{w64}
use Rattle.pct_ask.specs.NameLists.{list_of}
use Rattle.pct_ask.specs.Lines.{text_of_lines}
use Rattle.script_tree.specs.Layout.{form_text, valued_forms}
use Rattle.script_tree.proofs.printing.push_valued.Given as goal

abbrev pub invariant-loop-place : goal.invariant-loop-place
invariant-loop-place l = record {
  written : l.out.items ++ text_of_lines
      (map form_text (valued_forms l.kind (drop l.place (list_of l.kind l.names))
      (drop l.place l.values)))
      ≡ l.fn.out.items ++ text_of_lines
      (map form_text (valued_forms l.kind (list_of l.kind l.names) l.values));
  ranged : All (FitsSigned w64) (take l.place l.values);
}
