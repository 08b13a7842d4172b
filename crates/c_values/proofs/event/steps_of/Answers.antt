-- There are as many as numbers.
use Rattle.std.proofs.Common.{arith, sym, ◌∙◌}
use Rattle.c_values.specs.Events.{event_said}
use Rattle.c_values.proofs.SaidSteps.{length-said}
use Rattle.c_values.proofs.event.steps_of.Goals as goal

pub returns-then-numbers : goal.returns-then-numbers
returns-then-numbers c = λ told are.
    omega (arith, are.few, length-said event_said c.args.numbers.now told are.say)

pub returns-in-Some : goal.returns-in-Some
returns-in-Some c =
    let say = sym c.in_ok-events.ensures ∙ c.in-Some.is in record {
      say = say;
      few = omega (arith, length-said event_said c.args.numbers.now c.in-Some.events say);
    }
