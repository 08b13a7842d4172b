-- What was read can be written.
use Rattle.std.specs.List.{All}
use Rattle.std.proofs.Common.{◌≡◌, ◌≤◌, List, length, refl}
use Rattle.pct_ask.specs.NameLists.{NameLists}
use Rattle.pct_ask.specs.VerdictText.{verdict_text}
use Rattle.pct_ask.specs.declared.event.Event.{Event}
use Rattle.pct_ask.specs.declared.verdict_text.VerdictRead.TheVariants.{Is}
use Rattle.pct_ask.proofs.laws.VerdictsRead.{read-written}
use Rattle.trace_text.specs.Lawful.{IsStep}
use Rattle.trace_text.specs.Trace.{IsWritableFile}
use Rattle.trace_text.specs.declared.file.TraceFile.{TraceFile}
use Rattle.trace_text.proofs.laws.Objects.{has_objects}
use Rattle.test_words.proofs.traces.rewritten.Goals as goal

few-steps : (names : NameLists) (file : TraceFile) (events : List Event) → IsWritableFile names file
    → events ≡ file.events → length events ≤ file.header.limit
few-steps names file events run is = rw is run.few

all-steps : (names : NameLists) (file : TraceFile) (events : List Event) → IsWritableFile names file
    → events ≡ file.events → All (IsStep names file.header.version) events
all-steps names file events run is = rw is run.steps

pub write_trace-again-requires : goal.write_trace-again-requires
write_trace-again-requires c =
    let file = c.in_ok-file.file in
    let names = c.args.names.now in
    let events = c.as_slice.result.now in
    let run = c.in_ok-file.ensures.answer.run in
    record {
      head = run.head;
      few = few-steps names file events run c.as_slice.ensures;
      steps = λ k d within.
          let is = all-steps names file events run c.as_slice.ensures k d within in
          record {
            thread = is.thread;
            line = is.line;
            objects = has_objects names file.header.version _ is.ask;
          };
      threads = run.end.threads;
      whole = (read-written names (verdict_text names file.verdict) (Is file.verdict) file.verdict
          (run.end.threads, run.end.form, refl) refl).1;
      version = run.end.known;
    }
