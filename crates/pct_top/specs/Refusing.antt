-- What each error of a lower call is to the caller of the program (this project).
use Rattle.std.specs.Prelude.{◌≡◌, ℕ, List, [], ◌∷◌, ◌++◌, codes, decimal}
use Rattle.pct_outside.specs.declared.shelves.ShelfError.{ShelfError}
use Rattle.pct_outside.specs.declared.shelves.ShelfError.TheVariants as shelves
use Rattle.pct_outside.specs.declared.sinks.SinkError.{SinkError}
use Rattle.pct_outside.specs.declared.sinks.SinkError.TheVariants as sinks
use Rattle.script_tree.specs.declared.fault.ScriptFault.{ScriptFault}
use Rattle.script_tree.specs.declared.fault.ScriptFault.TheVariants as script_faults
use Rattle.script_parse.specs.declared.fault.ScriptError.{ScriptError}
use Rattle.script_parse.specs.declared.fault.ScriptError.TheVariants as scripts
use Rattle.trace_text.specs.declared.fault.TraceFault.{TraceFault}
use Rattle.trace_text.specs.declared.fault.TraceFault.TheVariants as trace_faults
use Rattle.trace_text.specs.declared.fault.TraceError.{TraceError}
use Rattle.trace_text.specs.declared.fault.TraceError.TheVariants as traces
use Rattle.directive.specs.declared.fault.DirectiveFault.{DirectiveFault}
use Rattle.directive.specs.declared.fault.DirectiveFault.TheVariants as directive_faults
use Rattle.directive.specs.declared.fault.DirectiveError.{DirectiveError}
use Rattle.directive.specs.declared.fault.DirectiveError.TheVariants as directives
use Rattle.pct_top.specs.declared.settings.WordsError.{WordsError}
use Rattle.pct_top.specs.declared.settings.WordsError.TheVariants as words
use Rattle.pct_top.specs.declared.refusal.Refusal.{Refusal}
use Rattle.pct_top.specs.declared.refusal.Refusal.TheVariants.{Usage, Script, Trace, Directive}
use Rattle.pct_top.specs.declared.refusal.Refusal.TheVariants.{Read, Write, Memory}
use Rattle.pct_top.specs.declared.status.Status.{Status}
use Rattle.pct_top.specs.declared.status.Status.TheVariants as statuses

-- the refusal for an error in the words: the number of the word that isn't taken, or want of memory
abbrev pub IsOfWords : WordsError → Refusal → Type 0
IsOfWords (words.Word n) refusal = refusal ≡ Usage n
IsOfWords words.NoMemory refusal = refusal ≡ Memory

-- the refusal for an error of a script: its first faulty line and the fault, or want of memory
abbrev pub IsOfScript : ScriptError → Refusal → Type 0
IsOfScript (scripts.Bad line kind) refusal = refusal ≡ Script line kind
IsOfScript scripts.NoMemory refusal = refusal ≡ Memory

-- the refusal for an error of a trace: its first faulty line and the fault, or want of memory
abbrev pub IsOfTrace : TraceError → Refusal → Type 0
IsOfTrace (traces.Bad line kind) refusal = refusal ≡ Trace line kind
IsOfTrace traces.NoMemory refusal = refusal ≡ Memory

-- the refusal for an error of a directive: its first faulty line and the fault, or want of memory
abbrev pub IsOfDirective : DirectiveError → Refusal → Type 0
IsOfDirective (directives.Bad line kind) refusal = refusal ≡ Directive line kind
IsOfDirective directives.NoMemory refusal = refusal ≡ Memory

-- the refusal for an error of a file: it couldn't be read, or want of memory
abbrev pub IsOfShelf : ShelfError → Refusal → Type 0
IsOfShelf shelves.Failed refusal = refusal ≡ Read
IsOfShelf shelves.NoMemory refusal = refusal ≡ Memory

-- the refusal for an error of a stream: it couldn't be written, or want of memory
abbrev pub IsOfSink : SinkError → Refusal → Type 0
IsOfSink sinks.Failed refusal = refusal ≡ Write
IsOfSink sinks.NoMemory refusal = refusal ≡ Memory

-- the status with which the program ends for each refusal
abbrev pub status_of_refusal : Refusal → Status
status_of_refusal (Usage word) = statuses.Usage
status_of_refusal (Script line kind) = statuses.BadScript
status_of_refusal (Trace line kind) = statuses.BadTrace
status_of_refusal (Directive line kind) = statuses.BadDirective
status_of_refusal Read = statuses.ReadFault
status_of_refusal Write = statuses.WriteFault
status_of_refusal Memory = statuses.NoMemory

-- the word on the error stream for a fault of a script
abbrev pub script_fault_name : ScriptFault → List ℕ
script_fault_name script_faults.NotUtf8 = codes "NotUtf8"
script_fault_name script_faults.LineTooLong = codes "LineTooLong"
script_fault_name script_faults.TooManyLines = codes "TooManyLines"
script_fault_name script_faults.BadHeader = codes "BadHeader"
script_fault_name script_faults.BadToken = codes "BadToken"
script_fault_name script_faults.BadStatement = codes "BadStatement"
script_fault_name script_faults.UnknownName = codes "UnknownName"
script_fault_name script_faults.TwiceNamed = codes "TwiceNamed"
script_fault_name script_faults.NumberRange = codes "NumberRange"
script_fault_name script_faults.NoEnd = codes "NoEnd"
script_fault_name script_faults.StrayEnd = codes "StrayEnd"
script_fault_name script_faults.NoThread = codes "NoThread"
script_fault_name script_faults.TooMany = codes "TooMany"

-- the word on the error stream for a fault of a trace
abbrev pub trace_fault_name : TraceFault → List ℕ
trace_fault_name trace_faults.TooLong = codes "TooLong"
trace_fault_name trace_faults.BadHeader = codes "BadHeader"
trace_fault_name trace_faults.BadLine = codes "BadLine"
trace_fault_name trace_faults.UnknownName = codes "UnknownName"
trace_fault_name trace_faults.OutOfOrder = codes "OutOfOrder"
trace_fault_name trace_faults.NoVerdict = codes "NoVerdict"
trace_fault_name trace_faults.MoreAfterVerdict = codes "MoreAfterVerdict"

-- the word on the error stream for a fault of a directive
abbrev pub directive_fault_name : DirectiveFault → List ℕ
directive_fault_name directive_faults.TooLong = codes "TooLong"
directive_fault_name directive_faults.BadHeader = codes "BadHeader"
directive_fault_name directive_faults.BadLine = codes "BadLine"
directive_fault_name directive_faults.UnknownName = codes "UnknownName"
directive_fault_name directive_faults.NoVerdict = codes "NoVerdict"
directive_fault_name directive_faults.MoreAfterVerdict = codes "MoreAfterVerdict"

-- the line on the error stream, with its LF (this project)
abbrev pub refusal_line : Refusal → List ℕ
refusal_line (Usage word) = codes "usage: word " ++ decimal word ++ 10 ∷ []
refusal_line (Script line kind) =
    codes "script: line " ++ decimal line ++ 32 ∷ script_fault_name kind ++ 10 ∷ []
refusal_line (Trace line kind) =
    codes "trace: line " ++ decimal line ++ 32 ∷ trace_fault_name kind ++ 10 ∷ []
refusal_line (Directive line kind) =
    codes "directive: line " ++ decimal line ++ 32 ∷ directive_fault_name kind ++ 10 ∷ []
refusal_line Read = codes "read fault\n"
refusal_line Write = codes "write fault\n"
refusal_line Memory = codes "no memory\n"
