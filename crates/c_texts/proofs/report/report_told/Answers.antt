use Rattle.std.proofs.Common.{subst}
use Rattle.std.proofs.lemmas.Result.{err_from_is_err_and}
use Rattle.pct_ask.specs.NameLists.{NameLists}
use Rattle.failure_rank.proofs.Laws.{groups_have}
use Rattle.report_text.specs.Report.{IsWritable}
use Rattle.c_values.proofs.laws.Refusals.{refusal}
use Rattle.c_texts.specs.Reports.{SaysReport, IsReportText}
use Rattle.c_texts.specs.declared.report.Ranked.{Ranked}
use Rattle.c_texts.proofs.SameNames.{same_names}
use Rattle.c_texts.proofs.report.report_told.Goals as goal

pub returns-in_err-told : goal.returns-in_err-told
returns-in_err-told c =
    let a = c.args in
    let k = c.in_ok-known in
    let r = c.from_residual-in_err-told in
    let p = err_from_is_err_and r.result r.ensures.1 in
    refusal (λ (told : Ranked). SaysReport k.known a.rows.now told.rows told.groups)
    (IsReportText a.names.now a.frame.now a.rows.now)
    c.in_err-told.field-0.0 p.0 r.result p.1 p.2 c.in_err-told.ensures
    (λ text is.
    let same = same_names a.names.now k.known is.names k.ensures is.named in
    let moved = subst (λ (n : NameLists). SaysReport n a.rows.now is.rows is.groups) same is.says in
    let told : Ranked = record { rows = is.rows; groups = is.groups } in (told, moved))

pub text_report-requires-clause-groups : goal.text_report-requires-clause-groups
text_report-requires-clause-groups c =
    let told = c.in_ok-told.told in
    groups_have (IsWritable c.in_ok-known.known) told.rows told.groups
    c.in_ok-told.ensures.ranking c.in_ok-told.ensures.known
