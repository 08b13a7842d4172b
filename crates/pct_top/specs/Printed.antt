-- What a call puts on the output and says on the error stream, and how it ends, by the order of
-- work: the script is read and parsed, then an order is looked up, then a second file is read and
-- parsed, and then the runs are made (this project).
use Rattle.std.specs.Prelude.{◌≡◌, ℕ, ◌⊎◌, Bool, if◌then◌else◌, List, []}
use Rattle.pct_ask.specs.NameLists.{NameLists}
use Rattle.pct_ask.specs.declared.Deal.{Deal}
use Rattle.script_tree.specs.declared.fault.ScriptFault.{ScriptFault}
use Rattle.script_tree.specs.ScriptText.{ScriptText}
use Rattle.script_tree.specs.DealOf.{IsDealOf}
use Rattle.script_tree.specs.Grammar.{Spells}
use Rattle.script_tree.specs.Faults.{IsFault}
use Rattle.trace_text.specs.declared.file.TraceFile.{TraceFile}
use Rattle.trace_text.specs.declared.fault.TraceFault.{TraceFault}
use Rattle.trace_text.specs.Trace.{IsTrace}
use Rattle.trace_text.specs.Faults.{IsTraceFault}
use Rattle.directive.specs.declared.directive.Directive.{Directive}
use Rattle.directive.specs.declared.fault.DirectiveFault.{DirectiveFault}
use Rattle.directive.specs.Directive.{IsDirective}
use Rattle.directive.specs.Faults.{IsDirectiveFault}
use Rattle.directive.specs.Answers.{plain_directive as plain}
use Rattle.pct_top.specs.declared.refusal.Refusal.{Refusal}
use Rattle.pct_top.specs.declared.refusal.Refusal.TheVariants.{Usage, Script, Trace}
use Rattle.pct_top.specs.declared.refusal.Refusal.TheVariants.{Directive as BadDirective}
use Rattle.pct_top.specs.declared.status.Status.{Status}
use Rattle.pct_top.specs.declared.status.Status.TheVariants.{Done, Found}
use Rattle.pct_top.specs.Refusing.{status_of_refusal, refusal_line}
use Rattle.pct_top.specs.Ordered.{NamesAll}

-- the bytes of each file by its name
abbrev pub NamedFiles : Type 0
NamedFiles = List ℕ → List ℕ

-- the bytes on the output, the status, and the line on the error stream
pub record Printed : Type 0 where
  pub out : List ℕ
  pub status : Status
  pub err : List ℕ

-- nothing is put on the output, and a line on the error stream says why
abbrev pub printed_refusal : Refusal → Printed
printed_refusal refusal =
    record { out = []; status = status_of_refusal refusal; err = refusal_line refusal }

-- a text is put on the output, and it is done or something is found
abbrev pub printed_text : List ℕ → Bool → Printed
printed_text text done = record { out = text; status = if done then Done else Found; err = [] }

-- how many bytes of a script are read: one more than a script may have
abbrev pub script_bytes : ℕ
script_bytes = 1048577

-- how many bytes of a trace are read: one more than a trace may have
abbrev pub trace_bytes : ℕ
trace_bytes = 16777217

-- how many bytes of a directive are read: one more than a directive may have
abbrev pub directive_bytes : ℕ
directive_bytes = 65537

-- The bytes spell a script, of which, with what its threads share, this is printed; or they have a
-- fault.
abbrev pub OfScript : List ℕ → (ScriptText → Deal → Printed → Type 0) → Printed → Type 0
OfScript bytes of printed =
    ((script : ScriptText) × Spells bytes script
    × ((deal : Deal) × IsDealOf script deal × of script deal printed))
    ⊎ ((line : ℕ) × (kind : ScriptFault) × IsFault bytes line kind
    × (printed ≡ printed_refusal (Script line kind)))

-- The names, which stand in the word of this number, list every thread once, and this is printed of
-- their order; or the word is refused.
abbrev pub OfOrder : NameLists → List (List ℕ) → ℕ → (List ℕ → Printed → Type 0) → Printed → Type 0
OfOrder names items word of printed =
    ((order : List ℕ) × NamesAll names items order × of order printed)
    ⊎ (((order : List ℕ) → ¬ NamesAll names items order) × (printed ≡ printed_refusal (Usage word)))

-- The bytes are a trace of these names, of which this is printed; or they have a fault.
abbrev pub OfTrace : List ℕ → NameLists → (TraceFile → Printed → Type 0) → Printed → Type 0
OfTrace bytes names of printed =
    ((file : TraceFile) × IsTrace bytes names file × of file printed)
    ⊎ ((line : ℕ) × (kind : TraceFault) × IsTraceFault bytes names line kind
    × (printed ≡ printed_refusal (Trace line kind)))

-- The bytes are a directive under these names, of which this is printed; or they have a fault.
abbrev pub OfDirective : List ℕ → NameLists → (Directive → Printed → Type 0) → Printed → Type 0
OfDirective bytes names of printed =
    ((directive : Directive) × IsDirective bytes names (plain directive) × of directive printed)
    ⊎ ((line : ℕ) × (kind : DirectiveFault) × IsDirectiveFault bytes names line kind
    × (printed ≡ printed_refusal (BadDirective line kind)))
