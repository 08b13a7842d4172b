-- Each iteration prints one declaration.
use Rattle.std.proofs.Common.{◌++◌, ◌∷◌, [], List, All, subst, get_or, ap, ◌∙◌, arith, rules}
use Rattle.std.specs.Prelude.{ℤ, pos, FitsSigned}
use Rattle.std.specs.Int.{w64}
use Rattle.std.proofs.lemmas.List.Elements.{All-more}
use Rattle.std.proofs.lemmas.List.{take_all}
use Rattle.pct_ask.specs.NameLists.{list_of}
use Rattle.script_tree.proofs.DeclarationLemmas.{valued-more, valued-all}
use Rattle.script_tree.proofs.printing.push_valued.Goals as goal

pub loop-place-preserved : goal.loop-place-preserved
loop-place-preserved c =
    let names = list_of c.args.kind c.args.names.now in
    let values = c.args.values.now in
    let i = c.loop-place.place in
    record {
      written =
          valued-more c.args.kind names values i (get_or values i (pos 0)) _ _ _ _ _ _ (omega arith)
          (omega arith) (search rules) c.loop-place.invariant.written
          (c.in_ok-push_spaced.ensures ∙ ap (λ word. c.loop-place.out.items ++ (word ++ 32 ∷ []))
          c.kind_word.ensures)
          (c.in_ok-push_spaced-2.ensures ∙ ap
          (λ word. c.push_spaced.new.out.items ++ (word ++ 32 ∷ [])) c.name_at.ensures)
          c.in_ok-push_spaced-3.ensures (search rules);
      ranged =
          All-more (FitsSigned w64) values i (pos 0) (omega arith) c.loop-place.invariant.ranged
          (let h : FitsSigned w64 (get_or c.as_slice-firsts.result.now i (pos 0)) = search rules in
          subst (λ (firsts : List ℤ). FitsSigned w64 (get_or firsts i (pos 0)))
          c.as_slice-firsts.ensures h);
    }

pub returns-clause-written : goal.returns-clause-written
returns-clause-written c =
    valued-all c.args.kind (list_of c.args.kind c.args.names.now) c.args.values.now
    c.loop-place.place _ _ (omega arith) c.loop-place.invariant.written

pub returns-clause-ranged : goal.returns-clause-ranged
returns-clause-ranged c =
    subst (All (FitsSigned w64)) (take_all c.loop-place.place c.args.values.now (omega arith))
    c.loop-place.invariant.ranged
