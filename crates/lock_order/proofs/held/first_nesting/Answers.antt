use Rattle.std.proofs.Common.{◌+◌, suc, inl, inr, refl, arith, get_or, add-one}
use Rattle.std.proofs.lemmas.Bool.{cases_eq}
use Rattle.std.proofs.lemmas.Option.{slice_get-get_or}
use Rattle.lock_order.specs.declared.mutex_set.MutexSet.{MutexSet}
use Rattle.lock_order.proofs.Holding.{no_event, event-at}
use Rattle.lock_order.proofs.StepNestings.{pair-here, pair-there, nesting-within}
use Rattle.lock_order.proofs.held.first_nesting.Goals as goal

abbrev none : MutexSet
none = record { bits = 0 }

pub returns-then-nests : goal.returns-then-nests
returns-then-nests c =
    let events = c.args.events.now in
    let place = c.loop-place.place in
    let event = get_or events place no_event in
    let at = event-at events place c.loop-place-test.true in
    let held = get_or c.args.sets.now place none in
    let at_held = slice_get-get_or c.args.sets.now place none
    (let whole = c.requires.sets.whole in let within = c.loop-place-test.true in omega arith) in
    let is = c.if-nests.ensures.0 refl in
    record {
      nested =
          pair-here events place event at c.args.held c.args.mutex is.0
          ((c.requires.sets.each place event held at at_held c.args.held).0 is.1)
          (c.loop-place.place + 1) event.thread (add-one c.loop-place.place) refl;
      least = λ other pair. let later = c.loop-place.invariant other pair in omega arith;
    }

pub loop-place-preserved : goal.loop-place-preserved
loop-place-preserved c = λ nesting pair.
    let events = c.args.events.now in
    let place = c.loop-place.place in
    let event = get_or events place no_event in
    let at = event-at events place c.loop-place-test.true in
    let held = get_or c.args.sets.now place none in
    let at_held = slice_get-get_or c.args.sets.now place none
    (let whole = c.requires.sets.whole in let within = c.loop-place-test.true in omega arith) in
    let later = c.loop-place.invariant nesting pair in
    elim (cases_eq nesting.step (suc place)) [
      | inl here ↦
          let found = pair-there events place event at c.args.held c.args.mutex nesting here pair in
          let no = c.if-nests.ensures.1 (
            found.0,
            (c.requires.sets.each place event held at at_held c.args.held).1 found.1,
          ) in
          absurd cc
      | inr ne ↦ omega arith
    ]

pub unreachable-requires : goal.unreachable-requires
unreachable-requires c =
    let found = c.requires.nested in
    let past = c.loop-place.invariant found.0 found.1 in
    let within = (nesting-within c.args.events.now found.0 found.1.nested).1 in
    omega arith
