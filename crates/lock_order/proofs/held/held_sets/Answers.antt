use Rattle.std.proofs.Common.{refl, arith, get_or}
use Rattle.std.proofs.lemmas.Option.{slice_get-get_or}
use Rattle.lock_order.proofs.Holding.{no_event, event-at, thread-small, so-far-first, so-far-more}
use Rattle.lock_order.proofs.held.held_sets.Goals as goal

pub loop-event-init : goal.loop-event-init
loop-event-init c =
    so-far-first c.args.events.now c.new-sets.result.items _ c.new-sets.ensures.items refl

pub loop-event-preserved : goal.loop-event-preserved
loop-event-preserved c =
    let events = c.args.events.now in
    let place = c.loop-event.event-index in
    let event = get_or events place no_event in
    let small = thread-small c.requires.in_range.0 events place c.requires.in_range.1
    c.loop-event-test.true in
    let long = c.loop-event.invariant.threads in
    let held = get_or c.loop-event.now event.thread (record { bits = 0 }) in
    so-far-more events place event (event-at events place c.loop-event-test.true)
    c.loop-event.sets.items c.loop-event.now c.push.new.self.items held c.after.result
    c.loop-event.invariant (slice_get-get_or c.loop-event.now event.thread (record { bits = 0 })
    (omega arith)) c.after.ensures c.in_ok-push.ensures.items
