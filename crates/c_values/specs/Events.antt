-- A step as numbers (this project's coding).
use Rattle.std.specs.Prelude.{◌≡◌, ◌≤◌, Option, Some, None, List, length}
use Rattle.pct_ask.specs.declared.ask.Ask.{Ask}
use Rattle.pct_ask.specs.declared.event.Event.{Event}
use Rattle.c_values.specs.declared.event.PctEvent.{PctEvent}
use Rattle.c_values.specs.Asks.{ask_said}
use Rattle.c_values.specs.Told.{all_said}
use Rattle.pct_ask.specs.declared.limits.TheConstants.{MAX_STEPS}

-- the step of an ask, if there is one, with the thread, the line and the answer of these numbers
abbrev pub event_with : PctEvent → Option (Option Ask) → Option Event
event_with n None = None
event_with n (Some None) = None
event_with n (Some (Some ask)) =
    Some (record { thread = n.thread; line = n.line; ask = ask; answer = n.answer })

-- the step that the numbers say; where they say nothing, or that there is no ask, they say no step
abbrev pub event_said : PctEvent → Option Event
event_said n = event_with n (ask_said n.ask)

-- the steps that they say, one after another, if each says one
abbrev pub events_said : List PctEvent → Option (List Event)
events_said numbers = all_said event_said numbers

-- the numbers say this step
abbrev pub SaysEvent : PctEvent → Event → Type 0
SaysEvent numbers event = event_said numbers ≡ Some event

-- the numbers say these steps
abbrev pub SayEvents : List PctEvent → List Event → Type 0
SayEvents numbers events = events_said numbers ≡ Some events

-- the numbers say these steps, at most 100000 of them
pub record AreSteps (numbers : List PctEvent) (events : List Event) : Type 0 where
  pub say : SayEvents numbers events
  pub few : length events ≤ MAX_STEPS
