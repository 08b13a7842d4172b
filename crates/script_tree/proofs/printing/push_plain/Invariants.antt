-- What is printed, with what is left, is all.
use Rattle.std.proofs.Common.{◌≡◌, ◌++◌, drop, map}
use Rattle.pct_ask.specs.NameLists.{list_of}
use Rattle.pct_ask.specs.Lines.{text_of_lines}
use Rattle.script_tree.specs.Layout.{form_text, plain_forms}
use Rattle.script_tree.proofs.printing.push_plain.Given as goal

abbrev pub invariant-loop-place : goal.invariant-loop-place
invariant-loop-place l =
    l.out.items ++ text_of_lines (map form_text
    (plain_forms l.kind (drop l.place (list_of l.kind l.names))))
    ≡ l.fn.out.items ++ text_of_lines (map form_text (plain_forms l.kind (list_of l.kind l.names)))
