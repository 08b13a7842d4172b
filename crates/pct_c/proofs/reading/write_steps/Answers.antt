-- One more step is written.
use Rattle.std.proofs.Common.{take, arith, pos}
use Rattle.std.specs.Prelude.{slice_index_or}
use Rattle.std.proofs.lemmas.List.{take_more, take_more_set}
use Rattle.pct_ask.specs.declared.event.Event.{Event}
use Rattle.pct_ask.specs.declared.ask.Ask.TheVariants.{Read}
use Rattle.c_values.specs.Events.{event_said}
use Rattle.pct_c.proofs.Told.{one-more}
use Rattle.pct_c.proofs.reading.write_steps.Goals as goal

pub loop-place-preserved : goal.loop-place-preserved
loop-place-preserved c =
    let events = c.args.events.now in
    let numbers = c.loop-place.numbers in
    let i = c.loop-place.place in
    let none : Event = record { thread = 0; line = 0; ask = Read 0; answer = pos 0 } in
    let within = c.loop-place-test.true in
    rw (
      take_more_set numbers i c.numbers_of_event.result
          (omega (arith, within, c.loop-place.auto.numbers, c.requires)),
      take_more events i none within,
    )
    (one-more event_said (take i numbers) (take i events) c.numbers_of_event.result
    (slice_index_or events i none) c.loop-place.invariant c.numbers_of_event.ensures)
