-- What is told of traces that are read (this project).
use Rattle.std.specs.Prelude.{◌≡◌, ◌≢◌, ◌≤◌, ◌<◌, ◌+◌, ◌⊎◌, ℕ, List, length, take, drop, Option}
use Rattle.std.specs.Prelude.{Some, None, Result, Ok, Err}
use Rattle.pct_ask.specs.NameLists.{NameLists}
use Rattle.pct_ask.specs.declared.verdict.Outcome.TheVariants.{Verdict as Ends}
use Rattle.trace_text.specs.Trace.{IsTrace}
use Rattle.trace_text.specs.Faults.{IsTraceFault}
use Rattle.trace_text.specs.declared.file.TraceFile.{TraceFile}
use Rattle.trace_text.specs.declared.fault.TraceFault.{TraceFault}
use Rattle.trace_text.specs.declared.fault.TraceFault.TheVariants.{TooLong, BadHeader, BadLine}
use Rattle.trace_text.specs.declared.fault.TraceFault.TheVariants.{UnknownName, OutOfOrder}
use Rattle.trace_text.specs.declared.fault.TraceFault.TheVariants.{NoVerdict, MoreAfterVerdict}
use Rattle.c_values.specs.declared.event.PctEvent.{PctEvent}
use Rattle.c_values.specs.declared.outcome.PctOutcome.{PctOutcome}
use Rattle.c_values.specs.Events.{SayEvents}
use Rattle.c_values.specs.NamesText.{names_of_text}
use Rattle.c_values.specs.Outcomes.{outcome_numbers}
use Rattle.pct_c.specs.declared.kept.Kept.{Kept}
use Rattle.pct_c.specs.declared.kept.Kept.TheVariants.{Book as OfBook, Trace as OfTrace}
use Rattle.pct_c.specs.declared.traces.PctHead.{PctHead}
use Rattle.pct_c.specs.declared.traces.PctRead.{PctRead}

-- what is wrong with a trace, by its number
abbrev pub fault_number : TraceFault → ℕ
fault_number TooLong = 1
fault_number BadHeader = 2
fault_number BadLine = 3
fault_number UnknownName = 4
fault_number OutOfOrder = 5
fault_number NoVerdict = 6
fault_number MoreAfterVerdict = 7

-- the text is the trace of this file, under the names that another text says
pub record IsReadTrace (of_names bytes : List ℕ) (file : TraceFile) : Type 0 where
  pub names : NameLists
  pub named : names_of_text of_names ≡ Some names
  pub trace : IsTrace bytes names file

-- the text has this first fault, under the names that another text says
pub record IsReadFault (of_names bytes : List ℕ) (line fault : ℕ) : Type 0 where
  pub names : NameLists
  pub named : names_of_text of_names ≡ Some names
  pub kind : TraceFault
  pub number : fault ≡ fault_number kind
  pub is : IsTraceFault bytes names line kind

-- bad: the text of names says none, or the other text has a first fault; else there is no memory
pub record RefusesTrace (of_names bytes : List ℕ) (read : PctRead) : Type 0 where
  pub bad : read.status ≡ 5 → ((read.line ≡ 0) × (names_of_text of_names ≡ None))
      ⊎ IsReadFault of_names bytes read.line read.fault
  pub statuses : (read.status ≡ 5) ⊎ (read.status ≡ 6)

abbrev pub AnswersRead : List ℕ → List ℕ → Result TraceFile PctRead → Type 0
AnswersRead of_names bytes (Ok file) = IsReadTrace of_names bytes file
AnswersRead of_names bytes (Err read) = RefusesTrace of_names bytes read

-- Done: the text is a trace, and the handle has what it tells. Bad and no memory as above, and the
-- handle has what it had.
pub record ReadsTrace (of_names bytes : List ℕ) (read : PctRead) (old new : Option Kept)
    : Type 0 where
  pub done : read.status ≡ 0
      → (file : TraceFile) × IsReadTrace of_names bytes file × (new ≡ Some (OfTrace file))
  pub bad : read.status ≡ 5 → ((read.line ≡ 0) × (names_of_text of_names ≡ None))
      ⊎ IsReadFault of_names bytes read.line read.fault
  pub statuses : (read.status ≡ 0) ⊎ ((read.status ≡ 5) ⊎ (read.status ≡ 6))
  pub stays : read.status ≢ 0 → new ≡ old

-- what is told of the trace that is held; where none is, the status says so
abbrev pub OnKeptTrace : (TraceFile → Type 0) → ℕ → Kept → Type 0
OnKeptTrace Tells status (OfTrace file) = Tells file
OnKeptTrace Tells status (OfBook book) = status ≡ 7

abbrev pub OnTrace : (TraceFile → Type 0) → ℕ → Option Kept → Type 0
OnTrace Tells status None = status ≡ 7
OnTrace Tells status (Some kept) = OnKeptTrace Tells status kept

-- its version and limit, and how many threads, change points and steps it has
pub record TellsHead (file : TraceFile) (head : PctHead) : Type 0 where
  pub done : head.status ≡ 0
  pub version : head.version ≡ file.header.version
  pub limit : head.limit ≡ file.header.limit
  pub threads : head.threads ≡ length file.header.order
  pub points : head.points ≡ length file.header.points
  pub steps : head.steps ≡ length file.events

-- Done where the lists have just the lengths of its order and of its change points, and then these
-- are they. Else bad.
pub record TellsOrder (file : TraceFile) (status : ℕ)
    (old_order new_order old_points new_points : List ℕ) : Type 0 where
  pub done : status ≡ 0 → (new_order ≡ file.header.order) × (new_points ≡ file.header.points)
  pub bad : status ≡ 5 → (length old_order ≢ length file.header.order)
      ⊎ (length old_points ≢ length file.header.points)
  pub statuses : (status ≡ 0) ⊎ (status ≡ 5)
  pub order_unwritten : status ≢ 0 → new_order ≡ old_order
  pub points_unwritten : status ≢ 0 → new_points ≡ old_points

-- Done where there are so many steps after the first ones, and then these are they. Bad where there
-- are fewer.
pub record TellsTraceSteps (file : TraceFile) (first status : ℕ) (before after : List PctEvent)
    : Type 0 where
  pub done : status ≡ 0 → (first + length before ≤ length file.events)
      × SayEvents after (take (length before) (drop first file.events))
  pub bad : status ≡ 5 → length file.events < first + length before
  pub statuses : (status ≡ 0) ⊎ (status ≡ 5)
  pub unwritten : status ≢ 0 → after ≡ before

-- the numbers are those of its verdict
pub record SaysFileVerdict (file : TraceFile) (status : ℕ) (numbers : PctOutcome) : Type 0 where
  pub done : status ≡ 0
  pub verdict : numbers ≡ outcome_numbers (Ends file.verdict)
