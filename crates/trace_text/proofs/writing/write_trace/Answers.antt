-- A head, steps and a verdict, which are the run's trace.
use Rattle.std.proofs.Common.{◌∙◌}
use Rattle.trace_text.specs.Trace.{head_of, file_of_parts, IsWritableFile}
use Rattle.trace_text.proofs.Written.{whole_text}
use Rattle.trace_text.proofs.laws.Answers.{written-answer}
use Rattle.trace_text.proofs.Traces.{written-trace}
use Rattle.trace_text.proofs.writing.write_trace.Goals as goal

pub returns : goal.returns
returns c =
    let header = c.args.header.now in
    let names = c.args.names.now in
    let events = c.args.events.now in
    let verdict = c.args.verdict.now in
    let text = rw (
      c.in_ok-push_steps.ensures.text,
      c.in_ok-push_head.ensures,
      c.new-text.ensures.items,
    ) at c.in_ok-push_verdict.ensures.text in
    let is = text ∙ whole_text (head_of header) names events verdict in
    let run : IsWritableFile names (file_of_parts header events verdict) = record {
      head = c.requires.head;
      few = c.requires.few;
      steps = c.in_ok-push_steps.ensures.lawful;
      end = record {
        threads = c.requires.threads;
        form = c.in_ok-push_verdict.ensures.form;
        known = c.requires.version;
      };
    } in
    let trace =
    written-trace names _ (file_of_parts header events verdict) c.count.ensures.lawful run is in
    record {
      text = is;
      trace = trace;
      read_back =
          λ answer given. written-answer names _ (file_of_parts header events verdict) answer
          c.count.ensures.lawful trace given;
    }
