-- Each line gives what is left to read, or the answer.
use Rattle.std.proofs.Common.{sym, ◌∙◌, ap, arith, Ok, Err, ◌+◌}
use Rattle.pct_ask.specs.Pieces.{pieces_of}
use Rattle.pct_ask.proofs.laws.TextPieces.{not-empty}
use Rattle.trace_text.specs.reader.Reading.{body_of}
use Rattle.trace_text.specs.declared.fault.TraceFault.TheVariants.{MoreAfterVerdict}
use Rattle.trace_text.proofs.Bodies.{body-read, last-more, line_or_fault-within, with_events}
use Rattle.trace_text.proofs.Bodies.{with_events-push}
use Rattle.trace_text.proofs.reading.read_body.Goals as goal

pub returns-in-Err : goal.returns-in-Err
returns-in-Err c =
    body-read c.args.names.now c.args.version c.args.limit c.lines.next c.lines.events
    (pieces_of c.lines.rest.now) c.cut_line.result.0.now c.cut_line.result.1 c.in-Some.after
    c.in_ok-row.row _ _ c.lines.invariant.same c.cut_line.ensures.pieces c.in-Some.is
    c.in_ok-row.ensures (sym c.line_or_fault.ensures ∙ c.in-Err.is)
    ∙ ap (λ line. Err (line, c.in-Err.kind)) (sym c.line_of-line.ensures)

pub returns-in-Ok-Last : goal.returns-in-Ok-Last
returns-in-Ok-Last c =
    body-read c.args.names.now c.args.version c.args.limit c.lines.next c.lines.events
    (pieces_of c.lines.rest.now) c.cut_line.result.0.now c.cut_line.result.1 c.in-Some.after
    c.in_ok-row.row _ _ c.lines.invariant.same c.cut_line.ensures.pieces c.in-Some.is
    c.in_ok-row.ensures (sym c.line_or_fault.ensures ∙ c.in-Ok-Last.is
    ∙ ap (λ s. Ok s) c.in-Ok-Last.field-0-is)
    ∙ last-more c.lines.events (c.lines.next + 4) c.in-Ok-Last.verdict c.in-Some.after.now
    (body_of c.args.names.now c.args.version c.args.limit (c.lines.next + 1)
    (pieces_of c.in-Some.after.now))
    (not-empty c.in-Some.after.now (sym c.is_empty.ensures ∙ c.if-is_empty.false))
    ∙ ap (λ line. Err (line + 1, MoreAfterVerdict)) (sym c.line_of-line.ensures)

pub lines-preserved : goal.lines-preserved
lines-preserved c =
    let event = c.in-Ok-Step.event in
    let others = body_of c.args.names.now c.args.version c.args.limit (c.lines.next + 1)
    (pieces_of c.in-Some.after.now) in
    let judge = sym c.line_or_fault.ensures ∙ c.in-Ok-Step.is
    ∙ ap (λ s. Ok s) c.in-Ok-Step.field-0-is in
    let read = body-read c.args.names.now c.args.version c.args.limit c.lines.next c.lines.events
    (pieces_of c.lines.rest.now) c.cut_line.result.0.now c.cut_line.result.1 c.in-Some.after
    c.in_ok-row.row _ _ c.lines.invariant.same c.cut_line.ensures.pieces c.in-Some.is
    c.in_ok-row.ensures judge in
    let within = line_or_fault-within c.args.limit c.lines.next c.in_ok-row.row event judge in
    record {
      same =
          ap (λ events. with_events events others) c.in_ok-try_push-in-Ok-Step.ensures.ok
          ∙ with_events-push c.lines.events event others ∙ sym read;
      within = omega (arith, within);
      some = omega arith;
    }
