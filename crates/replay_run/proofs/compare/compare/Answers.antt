-- The lists part at the step behind those in which they agree.
use Rattle.std.proofs.Common.{List, sym, ◌∙◌, subst}
use Rattle.pct_ask.specs.declared.event.Event.{Event}
use Rattle.trace_text.specs.Agreed.{IsAgreed}
use Rattle.replay_run.proofs.Parts.{differ_at, ends_before}
use Rattle.replay_run.proofs.compare.compare.Goals as goal

pub returns-in-Some-get : goal.returns-in-Some-get
returns-in-Some-get c =
    let made = c.args.played.now.events in
    let told = c.args.file.now.events in
    let A : List Event → Type 0 = λ l. IsAgreed l c.as_slice-2.result.now c.agreed-many.result in
    let B : List Event → Type 0 = λ l. IsAgreed made l c.agreed-many.result in
    let agreed = subst B c.as_slice-2.ensures (subst A c.as_slice.ensures c.agreed-many.ensures) in
    differ_at made told c.agreed-many.result agreed c.in-Some-get.event c.in-Some.written
    (sym c.get-2.ensures ∙ c.in-Some-get.is) (sym c.get.ensures ∙ c.in-Some.is)

pub returns-in-None : goal.returns-in-None
returns-in-None c =
    let made = c.args.played.now.events in
    let told = c.args.file.now.events in
    let A : List Event → Type 0 = λ l. IsAgreed l c.as_slice-2.result.now c.agreed-many.result in
    let B : List Event → Type 0 = λ l. IsAgreed made l c.agreed-many.result in
    let agreed = subst B c.as_slice-2.ensures (subst A c.as_slice.ensures c.agreed-many.ensures) in
    c.stopped.ensures made told c.args.file.now.verdict
    (ends_before made told c.agreed-many.result agreed c.in-Some.written
    (sym c.get-2.ensures ∙ c.in-None.is) (sym c.get.ensures ∙ c.in-Some.is))
