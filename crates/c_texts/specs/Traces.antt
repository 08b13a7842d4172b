-- A trace as a text, from numbers (this project).
use Rattle.std.specs.Prelude.{◌≡◌, ◌≤◌, ℕ, List, Some, length, All}
use Rattle.pct_ask.specs.NameLists.{NameLists}
use Rattle.pct_ask.specs.TraceText.{TraceHead, trace_text}
use Rattle.pct_ask.specs.declared.event.Event.{Event}
use Rattle.pct_ask.specs.declared.verdict.Verdict.{Verdict}
use Rattle.trace_text.specs.Known.{IsOfVersion}
use Rattle.trace_text.specs.Lawful.{IsHead, NamesKnown}
use Rattle.trace_text.specs.Trace.{head_of}
use Rattle.trace_text.specs.declared.file.Header.{Header}
use Rattle.c_values.specs.declared.event.PctEvent.{PctEvent}
use Rattle.c_values.specs.declared.outcome.PctOutcome.{PctOutcome}
use Rattle.c_values.specs.Events.{AreSteps}
use Rattle.c_values.specs.NamesText.{names_of_text}
use Rattle.c_texts.specs.Known.{SaysKnown}

-- the head may be written under the names, and this is it as a value
pub record IsHeadOf (names : NameLists) (head : TraceHead) (header : Header) : Type 0 where
  pub is : IsHead names head
  pub same : head_of header ≡ head

-- the numbers say these steps, at most so many, and they name only what there is; the test has a
-- thread
pub record SaysSteps (names : NameLists) (version limit : ℕ) (numbers : List PctEvent)
    (events : List Event) : Type 0 where
  pub run : AreSteps numbers events
  pub few : length events ≤ limit
  pub some_thread : 1 ≤ length names.threads
  pub known : All (NamesKnown names version) events

-- the trace of the run that the numbers say, under the names that a text says
pub record IsTraceText (of_names : List ℕ) (head : TraceHead) (steps : List PctEvent)
    (numbers : PctOutcome) (text : List ℕ) : Type 0 where
  pub names : NameLists
  pub named : names_of_text of_names ≡ Some names
  pub head_is : IsHead names head
  pub events : List Event
  pub run : SaysSteps names head.version head.limit steps events
  pub verdict : Verdict
  pub says : SaysKnown names numbers verdict
  pub of_version : IsOfVersion head.version verdict
  pub written : text ≡ trace_text head names events verdict
