use Rattle.std.proofs.Common.{◌≡◌, ◌⊎◌, ℕ, false, List, refl, sym, ap, subst, ◌∙◌}
use Rattle.std.specs.Prelude.{All}
use Rattle.pct_ask.specs.NameLists.{NameLists}
use Rattle.pct_ask.specs.TraceText.{TraceHead, trace_text}
use Rattle.pct_ask.specs.VerdictText.{HasNames}
use Rattle.pct_ask.specs.declared.event.Event.{Event}
use Rattle.trace_text.specs.Lawful.{NamesKnown, IsHead, is_of_second}
use Rattle.kit_main.proofs.Showable.{head-is}
use Rattle.kit_main.proofs.show.trace_of.Goals as goal

pub write_trace-written-requires-clause-head : goal.write_trace-written-requires-clause-head
write_trace-written-requires-clause-head g c =
    let names = c.in_ok-names.ensures in
    let head = c.in_ok-header.ensures in
    subst (λ (x : NameLists × TraceHead). IsHead x.0 x.1) (λ i. (sym names i, sym head i)) head-is

pub write_trace-written-requires-clause-steps : goal.write_trace-written-requires-clause-steps
write_trace-written-requires-clause-steps g c =
    let names = c.in_ok-names.ensures in
    let version = ap (λ (h : TraceHead). h.version) c.in_ok-header.ensures in
    let events = c.as_slice.ensures in
    subst (λ (x : NameLists × ℕ × List Event). All (NamesKnown x.0 x.1) x.2)
    (λ i. (sym names i, sym version i, sym events i)) c.in_ok-run.ensures.known.steps

pub write_trace-written-requires-clause-threads : goal.write_trace-written-requires-clause-threads
write_trace-written-requires-clause-threads g c =
    subst (λ (n : NameLists). HasNames n c.in_ok-run.run'.verdict) (sym c.in_ok-names.ensures)
    c.in_ok-run.ensures.known.end.threads

pub write_trace-written-requires-clause-whole : goal.write_trace-written-requires-clause-whole
write_trace-written-requires-clause-whole g c = c.in_ok-run.ensures.known.end.whole

pub write_trace-written-requires-clause-version : goal.write_trace-written-requires-clause-version
write_trace-written-requires-clause-version g c =
    let version = ap (λ (h : TraceHead). h.version) c.in_ok-header.ensures in
    subst (λ (v : ℕ). (is_of_second c.in_ok-run.run'.verdict ≡ false) ⊎ (v ≡ 2)) (sym version)
    c.in_ok-run.ensures.known.end.known

pub returns : goal.returns
returns g c =
    let r = c.in_ok-run.run' in
    let names = c.in_ok-names.ensures in
    let head = c.in_ok-header.ensures in
    let events = c.as_slice.ensures in (
      (r.events, r.verdict),
      c.in_ok-run.ensures.run,
      c.in_ok-text.ensures.text ∙ ap (λ (x : TraceHead × NameLists × List Event).
          trace_text x.0 x.1 x.2 r.verdict) (λ i. (head i, names i, events i)),
      refl,
    )
