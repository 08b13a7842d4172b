-- Each iteration prints one declaration.
use Rattle.std.proofs.Common.{◌++◌, ◌∷◌, [], ap, ◌∙◌, arith}
use Rattle.pct_ask.specs.NameLists.{list_of}
use Rattle.script_tree.proofs.DeclarationLemmas.{plain-more, plain-all}
use Rattle.script_tree.proofs.printing.push_plain.Goals as goal

pub loop-place-preserved : goal.loop-place-preserved
loop-place-preserved c =
    plain-more c.args.kind (list_of c.args.kind c.args.names.now) c.loop-place.place _ _ _ _
    (omega arith) c.loop-place.invariant
    (c.in_ok-push_spaced.ensures ∙ ap (λ word. c.loop-place.out.items ++ (word ++ 32 ∷ []))
    c.kind_word.ensures)
    (c.in_ok-push_last.ensures ∙ ap (λ word. c.push_spaced.new.out.items ++ (word ++ 10 ∷ []))
    c.name_at.ensures)

pub returns : goal.returns
returns c =
    plain-all c.args.kind (list_of c.args.kind c.args.names.now) c.loop-place.place _ _
    (omega arith) c.loop-place.invariant
