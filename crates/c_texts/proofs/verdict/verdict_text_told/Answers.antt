use Rattle.std.proofs.Common.{subst}
use Rattle.std.proofs.lemmas.Result.{err_from_is_err_and}
use Rattle.pct_ask.specs.NameLists.{NameLists}
use Rattle.c_values.proofs.laws.Refusals.{refusal}
use Rattle.c_texts.specs.Known.{SaysKnown}
use Rattle.c_texts.specs.Verdicts.{SaysVerdictText}
use Rattle.c_texts.proofs.SameNames.{same_names}
use Rattle.c_texts.proofs.verdict.verdict_text_told.Goals as goal

pub returns-in_err-said : goal.returns-in_err-said
returns-in_err-said c =
    let a = c.args in
    let k = c.in_ok-known in
    let r = c.from_residual-in_err-said in
    let p = err_from_is_err_and r.result r.ensures.1 in
    refusal (SaysKnown k.known a.verdict.now) (SaysVerdictText a.names.now a.verdict.now)
    c.in_err-said.field-0.0 p.0 r.result p.1 p.2 c.in_err-said.ensures
    (λ text is.
    let same = same_names a.names.now k.known is.names k.ensures is.named in
    let moved = subst (λ (n : NameLists). SaysKnown n a.verdict.now is.verdict) same is.says in
    (is.verdict, moved))
