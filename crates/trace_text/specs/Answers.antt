-- What reading a text answers (this project).
use Rattle.std.specs.Prelude.{◌≡◌, ℕ, ◌⊎◌, List, Result, Ok, Err}
use Rattle.pct_ask.specs.NameLists.{NameLists, AreNames}
use Rattle.trace_text.specs.Trace.{IsTrace}
use Rattle.trace_text.specs.Faults.{IsTraceFault}
use Rattle.trace_text.specs.declared.file.TraceFile.{TraceFile}
use Rattle.trace_text.specs.declared.fault.TraceFault.{TraceFault}
use Rattle.trace_text.specs.declared.fault.TraceError.{TraceError}
use Rattle.trace_text.specs.declared.fault.TraceError.TheVariants.{Bad, NoMemory}

-- A file is answered of a text that is its trace, and a fault of a text that has it. Want of memory
-- says nothing of a text.
abbrev pub AnswersTrace : List ℕ → NameLists → Result TraceFile TraceError → Type 0
AnswersTrace bytes names (Ok file) = IsTrace bytes names file
AnswersTrace bytes names (Err (Bad line kind)) = IsTraceFault bytes names line kind
AnswersTrace bytes names (Err NoMemory) = Unit {0}

-- the text is the trace of this file and of no other, and has no fault
pub record IsOnlyTrace (bytes : List ℕ) (names : NameLists) (file : TraceFile) : Type 0 where
  pub trace : IsTrace bytes names file
  pub only : (other : TraceFile) → IsTrace bytes names other → other ≡ file
  pub faultless : (line : ℕ) (kind : TraceFault) → ¬ IsTraceFault bytes names line kind

-- the text has this first fault and no other, and is no trace
pub record IsOnlyFault (bytes : List ℕ) (names : NameLists) (line : ℕ) (kind : TraceFault)
    : Type 0 where
  pub fault : IsTraceFault bytes names line kind
  pub only : (l : ℕ) (k : TraceFault) → IsTraceFault bytes names l k → (l ≡ line) × (k ≡ kind)
  pub no_trace : (file : TraceFile) → ¬ IsTrace bytes names file

-- the trace of one file, or one first fault
abbrev pub HasOneAnswer : List ℕ → NameLists → Type 0
HasOneAnswer bytes names =
    ((file : TraceFile) × IsOnlyTrace bytes names file)
    ⊎ ((line : ℕ) × (kind : TraceFault) × IsOnlyFault bytes names line kind)

-- Each text is, under the names of a test, the trace of exactly one file or has exactly one first
-- fault, and never both.
abbrev pub EachHasOneAnswer : Type 0
EachHasOneAnswer =
    (names : NameLists) → AreNames names → (bytes : List ℕ) → HasOneAnswer bytes names
