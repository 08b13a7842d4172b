use Rattle.std.proofs.Common.{◌≡◌, drop}
use Rattle.c_values.specs.Events.{event_said, events_said}
use Rattle.c_values.proofs.SaidSteps.{with_rest}
use Rattle.c_values.proofs.event.events_of.Given as goal

abbrev pub invariant-loop-one : goal.invariant-loop-one
invariant-loop-one l =
    events_said l.numbers ≡ with_rest event_said l.events.items (drop l.one-index l.numbers)
