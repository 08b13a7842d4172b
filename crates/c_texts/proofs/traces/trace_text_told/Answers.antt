use Rattle.std.proofs.Common.{subst, refl}
use Rattle.std.proofs.lemmas.Result.{err_from_is_err_and}
use Rattle.pct_ask.specs.NameLists.{NameLists}
use Rattle.c_values.proofs.laws.Refusals.{refusal}
use Rattle.trace_text.specs.Lawful.{IsHead}
use Rattle.trace_text.specs.declared.file.Header.{Header}
use Rattle.c_texts.specs.Known.{SaysKnown}
use Rattle.trace_text.specs.Known.{head_by, IsOfVersion}
use Rattle.c_texts.specs.Traces.{IsHeadOf, SaysSteps, IsTraceText}
use Rattle.c_texts.proofs.SameNames.{same_verdict}
use Rattle.pct_ask.specs.declared.verdict.Verdict.{Verdict}
use Rattle.c_texts.proofs.SameNames.{same_names}
use Rattle.c_texts.proofs.traces.trace_text_told.Goals as goal

pub returns-in_err-header : goal.returns-in_err-header
returns-in_err-header c =
    let a = c.args in
    let k = c.in_ok-known in
    let r = c.from_residual-in_err-header in
    let p = err_from_is_err_and r.result r.ensures.1 in
    refusal (IsHeadOf k.known (head_by a.version a.limit a.order.now a.points.now))
    (IsTraceText a.names.now (head_by a.version a.limit a.order.now a.points.now) a.steps.now
    a.verdict.now)
    c.in_err-header.field-0.0 p.0 r.result p.1 p.2 c.in_err-header.ensures
    (λ text is.
    let same = same_names a.names.now k.known is.names k.ensures is.named in
    let moved = subst (λ (n : NameLists).
    IsHead n (head_by a.version a.limit a.order.now a.points.now)) same is.head_is in
    let header : Header =
    record { version = a.version; order = a.order.now; points = a.points.now; limit = a.limit } in
    (header, record { is = moved; same = refl }))

pub returns-in_err-events : goal.returns-in_err-events
returns-in_err-events c =
    let a = c.args in
    let k = c.in_ok-known in
    let r = c.from_residual-in_err-events in
    let p = err_from_is_err_and r.result r.ensures.1 in
    refusal (SaysSteps k.known a.version a.limit a.steps.now)
    (IsTraceText a.names.now (head_by a.version a.limit a.order.now a.points.now) a.steps.now
    a.verdict.now)
    c.in_err-events.field-0.0 p.0 r.result p.1 p.2 c.in_err-events.ensures
    (λ text is.
    let same = same_names a.names.now k.known is.names k.ensures is.named in
    let moved = subst (λ (n : NameLists). SaysSteps n a.version a.limit a.steps.now is.events) same
    is.run in
    (is.events, moved))

pub returns-in_err-said : goal.returns-in_err-said
returns-in_err-said c =
    let a = c.args in
    let k = c.in_ok-known in
    let r = c.from_residual-in_err-said in
    let p = err_from_is_err_and r.result r.ensures.1 in
    refusal (SaysKnown k.known a.verdict.now)
    (IsTraceText a.names.now (head_by a.version a.limit a.order.now a.points.now) a.steps.now
    a.verdict.now)
    c.in_err-said.field-0.0 p.0 r.result p.1 p.2 c.in_err-said.ensures
    (λ text is.
    let same = same_names a.names.now k.known is.names k.ensures is.named in
    let moved = subst (λ (n : NameLists). SaysKnown n a.verdict.now is.verdict) same is.says in
    (is.verdict, moved))

pub returns-then-not-is_of_version : goal.returns-then-not-is_of_version
returns-then-not-is_of_version c = λ text is.
    let a = c.args in
    let same = same_verdict a.verdict.now c.in_ok-said.said is.verdict c.in_ok-said.ensures.says
    is.says.says in
    let of = subst (λ (v : Verdict). IsOfVersion a.version v) same is.of_version in
    let right = c.is_of_version.ensures.1 of in
    let wrong = c.if-not-is_of_version.true in absurd cc
