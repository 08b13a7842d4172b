-- The pieces of a step's line.
use Rattle.std.specs.Prelude.{codes, decimal}
use Rattle.std.specs.Fmt.{signed_decimal}
use Rattle.std.proofs.Common.{◌∙◌}
use Rattle.std.proofs.lemmas.Result.{on_ok_weaker}
use Rattle.pct_ask.specs.VerdictText.{thread_name}
use Rattle.pct_ask.specs.TraceText.{ask_words}
use Rattle.trace_text.proofs.Written.{event_line}
use Rattle.trace_text.proofs.writing.push_event.Goals as goal

pub returns-clause-lawful : goal.returns-clause-lawful
returns-clause-lawful c =
    on_ok_weaker c.push_answer.result
    (λ value. record {
      thread = c.requires.thread;
      line = c.requires.line;
      ask = c.in_ok-push_ask.ensures.lawful;
      answer = value;
    })
    c.push_answer.ensures.value

pub returns-clause-text : goal.returns-clause-text
returns-clause-text c =
    let e = c.args.event.now in
    let names = c.args.names.now in
    on_ok_weaker c.push_answer.result
    (λ written. written ∙ rw (
      c.in_ok-push_ask.ensures.text,
      c.in_ok-push_count.ensures,
      c.in_ok-push_name.ensures,
      c.in_ok-push_step.ensures,
    )
    (event_line c.args.out.now.items (decimal c.args.step) (thread_name names e.thread)
    (decimal e.line) (ask_words names e.ask) (codes "=") (signed_decimal e.answer)))
    c.push_answer.ensures.text
