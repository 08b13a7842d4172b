use Rattle.std.proofs.Common.{◌≡◌, suc, ◌-◌, ◌<◌, length, get_or, arith, eqb-true}
use Rattle.std.proofs.lemmas.Option.{slice_get-get_or}
use Rattle.lock_order.specs.declared.mutex_set.MutexSet.{MutexSet}
use Rattle.lock_order.proofs.Holding.{no_event, event-at}
use Rattle.lock_order.proofs.StepNestings.{nesting-here, nesting-there}
use Rattle.lock_order.proofs.held.is_nesting.Goals as goal

abbrev none : MutexSet
none = record { bits = 0 }

pub returns-then-event-nesting : goal.returns-then-event-nesting
returns-then-event-nesting c =
    let events = c.args.events.now in
    let nesting = c.args.nesting.now in
    let place = nesting.step - 1 in
    let within : place < length events = omega arith in
    let here : nesting.step ≡ suc place = omega arith in
    let event = get_or events place no_event in
    let at = event-at events place within in
    let held = get_or c.args.sets.now place none in
    let at_held = slice_get-get_or c.args.sets.now place none
    (let whole = c.requires.sets.whole in omega arith) in
    let those = c.requires.sets.each place event held at at_held nesting.held in (
      λ yes. let is = c.nests.ensures.0 yes in
          nesting-here events place event at nesting here c.if-event-nesting.true is.0
          (those.0 is.1),
      λ nested. let found = nesting-there events place event at nesting here nested in
          c.nests.ensures.1 (found.1, those.1 found.2),
    )

pub returns-else-event-nesting : goal.returns-else-event-nesting
returns-else-event-nesting c =
    let events = c.args.events.now in
    let nesting = c.args.nesting.now in
    let place = nesting.step - 1 in
    let within : place < length events = omega arith in
    let here : nesting.step ≡ suc place = omega arith in
    let event = get_or events place no_event in
    let at = event-at events place within in (
      λ yes. absurd (c.if-event-nesting.false (eqb-true event.thread nesting.thread yes)),
      λ nested. absurd (c.if-event-nesting.false
          (nesting-there events place event at nesting here nested).0),
    )
