-- One more line, at the end.
use Rattle.std.proofs.Common.{◌+◌, take, arith}
use Rattle.std.specs.List.{slice_index_or}
use Rattle.std.specs.Prelude.{pos}
use Rattle.std.proofs.lemmas.List.{take_more, length-take-le}
use Rattle.std.proofs.lemmas.List.Elements.{All-more}
use Rattle.trace_text.specs.Lawful.{IsStep}
use Rattle.pct_ask.specs.declared.event.Event.{Event}
use Rattle.pct_ask.specs.declared.ask.Ask.TheVariants.{Read}
use Rattle.trace_text.proofs.Written.{with_step}
use Rattle.trace_text.proofs.writing.push_steps.Goals as goal

pub loop-index-preserved : goal.loop-index-preserved
loop-index-preserved c =
    let events = c.args.events.now in
    let i = c.loop-index.index in
    let none : Event = record { thread = 0; line = 0; ask = Read 0; answer = pos 0 } in
    let longer = take_more events i none c.loop-index-test.true in
    record {
      lawful =
          All-more (IsStep c.args.names.now c.args.version) events i none c.loop-index-test.true
          c.loop-index.invariant.lawful c.in_ok-push_event.ensures.lawful;
      text =
          rw (c.in_ok-push_event.ensures.text, c.loop-index.invariant.text, longer)
          (with_step c.args.names.now c.args.out.now.items (take i events)
          (slice_index_or events i none) (i + 1)
          (omega (arith, length-take-le i events (omega arith))));
    }
