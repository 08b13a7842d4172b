-- How the code's values stand for those of the definitions (this project).
use Rattle.std.specs.Prelude.{◌≡◌, ℕ, List, Option, Some, None, Result, Ok, Err}
use Rattle.std.proofs.Common.{Bor}
use Rattle.pct_ask.specs.Pieces.{pieces_of}
use Rattle.trace_text.specs.reader.Reading.{Fault}
use Rattle.trace_text.specs.declared.fault.TraceFault.TheVariants.{BadHeader}
use Rattle.trace_text.specs.declared.fault.TraceError.{TraceError}
use Rattle.trace_text.specs.declared.fault.TraceError.TheVariants.{Bad, NoMemory}

-- the fault that a call answered is what reading gives, want of memory aside
abbrev pub Fails : {Y : Type 0} → TraceError → Result Y Fault → Type 0
Fails (Bad line kind) read = read ≡ Err (line, kind)
Fails NoMemory read = Unit {0}

-- What a call answered, seen by view, is what reading gives, want of memory aside.
abbrev pub Gives : {X Y : Type 0} → (X → Y) → Result X TraceError → Result Y Fault → Type 0
Gives view (Ok x) read = read ≡ Ok (view x)
Gives view (Err error) read = Fails error read

-- A line of the head: what its words say, and the pieces after its LF, where there was one.
abbrev pub cut_value : {A : Type 0} → ℕ → Option A → Option (Bor (List ℕ))
    → Result (A × List (List ℕ)) Fault
cut_value line value None = Err (line, BadHeader)
cut_value line None (Some rest) = Err (line, BadHeader)
cut_value line (Some x) (Some rest) = Ok (x, pieces_of rest.now)
