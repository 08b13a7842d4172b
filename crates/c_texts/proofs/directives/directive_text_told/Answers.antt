use Rattle.std.proofs.Common.{subst, ◌∙◌}
use Rattle.std.proofs.lemmas.Result.{err_from_is_err_and}
use Rattle.pct_ask.specs.NameLists.{NameLists}
use Rattle.c_values.proofs.laws.Refusals.{refusal}
use Rattle.directive.specs.Answers.{plain_directive}
use Rattle.directive.specs.declared.directive.Directive.{Directive}
use Rattle.c_texts.specs.Directives.{SaysDirective, IsDirectiveText}
use Rattle.c_texts.proofs.SameNames.{same_names}
use Rattle.c_texts.proofs.directives.directive_text_told.Goals as goal

pub returns-in_err-said : goal.returns-in_err-said
returns-in_err-said c =
    let a = c.args in
    let k = c.in_ok-known in
    let r = c.from_residual-in_err-said in
    let p = err_from_is_err_and r.result r.ensures.1 in
    refusal (λ (told : Directive). SaysDirective k.known a.directive.now (plain_directive told))
    (IsDirectiveText a.names.now a.directive.now)
    c.in_err-said.field-0.0 p.0 r.result p.1 p.2 c.in_err-said.ensures
    (λ text is.
    let same = same_names a.names.now k.known is.names k.ensures is.named in
    let moved = subst (λ (n : NameLists). SaysDirective n a.directive.now (plain_directive is.told))
    same is.says in
    (is.told, moved))

pub returns : goal.returns
returns c = record {
  names = c.in_ok-known.known;
  named = c.in_ok-known.ensures;
  told = c.in_ok-said.said;
  says = c.in_ok-said.ensures;
  written = c.from_vec.ensures ∙ c.in_ok-write_directive.ensures.text;
}
