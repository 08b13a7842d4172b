-- What reading the files of a call gives.
use Rattle.std.specs.Prelude.{◌≡◌, ℕ, List, take, Option, Some, Result, Ok, Err}
use Rattle.pct_ask.specs.NameLists.{NameLists}
use Rattle.pct_outside.specs.Reading.{names_with}
use Rattle.script_tree.specs.ScriptSeen.{plain_script}
use Rattle.script_tree.specs.Grammar.{Spells}
use Rattle.script_tree.specs.Faults.{IsFault}
use Rattle.trace_text.specs.declared.file.TraceFile.{TraceFile}
use Rattle.trace_text.specs.Trace.{IsTrace}
use Rattle.trace_text.specs.Faults.{IsTraceFault}
use Rattle.directive.specs.declared.directive.Directive.{Directive}
use Rattle.directive.specs.Directive.{IsDirective}
use Rattle.directive.specs.Faults.{IsDirectiveFault}
use Rattle.directive.specs.Answers.{plain_directive as plain}
use Rattle.pct_top.specs.declared.refusal.Refusal.{Refusal}
use Rattle.pct_top.specs.declared.refusal.Refusal.TheVariants.{Script, Trace}
use Rattle.pct_top.specs.declared.refusal.Refusal.TheVariants.{Directive as BadDirective, Read}
use Rattle.pct_top.specs.declared.refusal.Refusal.TheVariants.{Memory}
use Rattle.pct_top.specs.declared.test.ReadyTest.{ReadyTest}
use Rattle.pct_top.specs.Printed.{NamedFiles, trace_bytes, directive_bytes}

-- where the files are told, this text of them has that
abbrev pub HasText : Option NamedFiles → (NamedFiles → List ℕ) → (List ℕ → Type 0) → Type 0
HasText told text has = (files : NamedFiles) → told ≡ Some files → has (text files)

-- The read of this file failed, if it is one, and its name was added.
abbrev pub Misses : Option (List ℕ) → List (List ℕ) → List (List ℕ) → Type 0
Misses file failed failed' =
    (name : List ℕ) × (file ≡ Some name) × (failed' ≡ names_with failed name)

-- the script that the text spells, or its fault, or a read failed for this cause
abbrev pub GivesTest : Option NamedFiles → (NamedFiles → List ℕ) → Type 0 → Result ReadyTest Refusal
    → Type 0
GivesTest told source missed (Ok test) =
    HasText told source (λ bytes. Spells bytes (plain_script test.script))
GivesTest told source missed (Err (Script line kind)) =
    HasText told source (λ bytes. IsFault bytes line kind)
GivesTest told source missed (Err Read) = missed
GivesTest told source missed (Err Memory) = Unit {0}
GivesTest told source missed (Err refusal) = ⊥

-- the script that a text spells, or its fault; no file is read
abbrev pub GivesText : List ℕ → Result ReadyTest Refusal → Type 0
GivesText bytes (Ok test) = Spells bytes (plain_script test.script)
GivesText bytes (Err (Script line kind)) = IsFault bytes line kind
GivesText bytes (Err Memory) = Unit {0}
GivesText bytes (Err refusal) = ⊥

-- Some bytes are the trace: those of the file, where the files are told.
abbrev pub HasTrace : Option NamedFiles → List ℕ → NameLists → TraceFile → Type 0
HasTrace told file names trace =
    ((bytes : List ℕ) × IsTrace bytes names trace)
    × HasText told (λ files. take trace_bytes (files file)) (λ bytes. IsTrace bytes names trace)

-- the trace of the file, or its fault, or the read failed
abbrev pub GivesTrace :
    Option NamedFiles → List ℕ → NameLists → Type 0 → Result TraceFile Refusal → Type 0
GivesTrace told file names missed (Ok trace) = HasTrace told file names trace
GivesTrace told file names missed (Err (Trace line kind)) =
    HasText told (λ files. take trace_bytes (files file))
    (λ bytes. IsTraceFault bytes names line kind)
GivesTrace told file names missed (Err Read) = missed
GivesTrace told file names missed (Err Memory) = Unit {0}
GivesTrace told file names missed (Err refusal) = ⊥

-- Some bytes are the directive: those of the file, where the files are told.
abbrev pub HasDirective : Option NamedFiles → List ℕ → NameLists → Directive → Type 0
HasDirective told file names directive =
    ((bytes : List ℕ) × IsDirective bytes names (plain directive))
    × HasText told (λ files. take directive_bytes (files file))
    (λ bytes. IsDirective bytes names (plain directive))

-- the directive of the file, or its fault, or the read failed
abbrev pub GivesDirective :
    Option NamedFiles → List ℕ → NameLists → Type 0 → Result Directive Refusal → Type 0
GivesDirective told file names missed (Ok directive) = HasDirective told file names directive
GivesDirective told file names missed (Err (BadDirective line kind)) =
    HasText told (λ files. take directive_bytes (files file))
    (λ bytes. IsDirectiveFault bytes names line kind)
GivesDirective told file names missed (Err Read) = missed
GivesDirective told file names missed (Err Memory) = Unit {0}
GivesDirective told file names missed (Err refusal) = ⊥
