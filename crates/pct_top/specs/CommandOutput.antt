-- What comes of a command, before anything is put.
use Rattle.std.specs.Prelude.{◌≡◌, Option, Some, Result, Ok, Err}
use Rattle.pct_top.specs.declared.refusal.Refusal.{Refusal}
use Rattle.pct_top.specs.declared.refusal.Refusal.TheVariants.{Usage, Script, Trace, Directive}
use Rattle.pct_top.specs.declared.refusal.Refusal.TheVariants.{Read, Write, Memory}
use Rattle.pct_top.specs.declared.command_output.CommandOutput.{CommandOutput}
use Rattle.pct_top.specs.Printed.{NamedFiles, Printed, printed_refusal, printed_text}

-- what is printed for a command's output
abbrev pub printed_of : CommandOutput → Printed
printed_of output = printed_text output.text.items output.done

-- The output may be printed, and so may a refusal. Nothing else is at fault but want of memory.
abbrev pub GivesPrinted : (Printed → Type 0) → Result CommandOutput Refusal → Type 0
GivesPrinted of (Ok output) = of (printed_of output)
GivesPrinted of (Err (Usage word)) = of (printed_refusal (Usage word))
GivesPrinted of (Err (Script line kind)) = of (printed_refusal (Script line kind))
GivesPrinted of (Err (Trace line kind)) = of (printed_refusal (Trace line kind))
GivesPrinted of (Err (Directive line kind)) = of (printed_refusal (Directive line kind))
GivesPrinted of (Err Read) = ⊥
GivesPrinted of (Err Write) = ⊥
GivesPrinted of (Err Memory) = Unit {0}

-- this may be printed, where the files are told
abbrev pub ShowsFiles : (NamedFiles → Printed → Type 0) → Option NamedFiles → Printed → Type 0
ShowsFiles of told printed = (files : NamedFiles) → told ≡ Some files → of files printed

-- The same where files are read, and a read that fails has this for a cause.
abbrev pub Comes :
    (NamedFiles → Printed → Type 0) → Option NamedFiles → Type 0 → Result CommandOutput Refusal
    → Type 0
Comes of told missed (Ok output) = ShowsFiles of told (printed_of output)
Comes of told missed (Err (Usage word)) = ShowsFiles of told (printed_refusal (Usage word))
Comes of told missed (Err (Script line kind)) =
    ShowsFiles of told (printed_refusal (Script line kind))
Comes of told missed (Err (Trace line kind)) =
    ShowsFiles of told (printed_refusal (Trace line kind))
Comes of told missed (Err (Directive line kind)) =
    ShowsFiles of told (printed_refusal (Directive line kind))
Comes of told missed (Err Read) = missed
Comes of told missed (Err Write) = ⊥
Comes of told missed (Err Memory) = Unit {0}
