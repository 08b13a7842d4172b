-- Each line gives what is left to read, or the answer.
use Rattle.std.proofs.Common.{sym, ◌∙◌, ap, arith, Ok, ◌+◌, length, length-append, ◌∷◌, []}
use Rattle.pct_ask.specs.Pieces.{pieces_of}
use Rattle.pct_ask.proofs.laws.TextPieces.{not-empty}
use Rattle.directive.specs.Reading.{body_of}
use Rattle.directive.proofs.Bodies.{body-read, last-more, line_or_fault-within, with_moments}
use Rattle.directive.proofs.Bodies.{with_moments-push, fails-by}
use Rattle.directive.proofs.reading.read_body.Goals as goal

pub returns-in-Err : goal.returns-in-Err
returns-in-Err c =
    fails-by c.bad-in-Err.result c.lines.line c.in-Err.kind _ c.bad-in-Err.ensures
    (body-read c.args.names.now c.lines.line c.lines.events (pieces_of c.lines.rest.now)
    c.cut_line.result.0.now c.cut_line.result.1 c.in-Some.after c.in_ok-row.row _ _
    c.lines.invariant.same c.cut_line.ensures.pieces c.in-Some.is c.in_ok-row.ensures
    (sym c.line_or_fault.ensures ∙ c.in-Err.is))

pub returns-in-Ok-Last : goal.returns-in-Ok-Last
returns-in-Ok-Last c =
    fails-by c.bad-in-Ok-Last.result (c.lines.line + 1) _ _ c.bad-in-Ok-Last.ensures
    (body-read c.args.names.now c.lines.line c.lines.events (pieces_of c.lines.rest.now)
    c.cut_line.result.0.now c.cut_line.result.1 c.in-Some.after c.in_ok-row.row _ _
    c.lines.invariant.same c.cut_line.ensures.pieces c.in-Some.is c.in_ok-row.ensures
    (sym c.line_or_fault.ensures ∙ c.in-Ok-Last.is ∙ ap (λ s. Ok s) c.in-Ok-Last.field-0-is)
    ∙ last-more c.lines.events c.lines.line c.in-Ok-Last.verdict c.in-Some.after.now
    (body_of c.args.names.now (c.lines.line + 1) (pieces_of c.in-Some.after.now))
    (not-empty c.in-Some.after.now (sym c.is_empty.ensures ∙ c.if-is_empty.false)))

pub lines-preserved : goal.lines-preserved
lines-preserved c =
    let moment = c.in-Ok-Event.moment in
    let others = body_of c.args.names.now (c.lines.line + 1) (pieces_of c.in-Some.after.now) in
    let judge = sym c.line_or_fault.ensures ∙ c.in-Ok-Event.is
    ∙ ap (λ s. Ok s) c.in-Ok-Event.field-0-is in
    let read = body-read c.args.names.now c.lines.line c.lines.events (pieces_of c.lines.rest.now)
    c.cut_line.result.0.now c.cut_line.result.1 c.in-Some.after c.in_ok-row.row _ _
    c.lines.invariant.same c.cut_line.ensures.pieces c.in-Some.is c.in_ok-row.ensures judge in
    let within = line_or_fault-within c.lines.line c.in_ok-row.row moment judge in
    let longer = ap length c.in_ok-try_push-in-Ok-Event.ensures.ok
    ∙ length-append c.lines.events (moment ∷ []) in
    record {
      same =
          ap (λ events. with_moments events others) c.in_ok-try_push-in-Ok-Event.ensures.ok
          ∙ with_moments-push c.lines.events moment others ∙ sym read;
      count = omega (arith, longer);
      few = omega (arith, within);
    }
