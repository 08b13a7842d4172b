-- A file's trace is read as the file.
use Rattle.std.proofs.Common.{◌≡◌, ◌⊎◌, ℕ, List, Result, Ok, Err, refl, sym, ap, ◌∙◌, inl, inr}
use Rattle.pct_ask.specs.NameLists.{NameLists, AreNames}
use Rattle.trace_text.specs.Answers.{AnswersTrace}
use Rattle.trace_text.specs.Trace.{IsTrace}
use Rattle.trace_text.specs.reader.Reading.{Fault, read_as_trace}
use Rattle.trace_text.specs.declared.file.TraceFile.{TraceFile}
use Rattle.trace_text.specs.declared.fault.TraceError.{TraceError}
use Rattle.trace_text.specs.declared.fault.TraceError.TheVariants.{Bad, NoMemory}
use Rattle.trace_text.proofs.Traces.{ok_is, read-found, trace-read, fault-read}

-- whatever is answered of a text that is the trace of a file is that file
pub written-answer : (names : NameLists) (bytes : List ℕ) (file : TraceFile)
    (answer : Result TraceFile TraceError) → AreNames names → IsTrace bytes names file
    → AnswersTrace bytes names answer → (answer ≡ Ok file) ⊎ (answer ≡ Err NoMemory)
written-answer names bytes file (Ok other) sound trace told =
    let same = ok_is other file (sym (trace-read names bytes other sound told)
    ∙ trace-read names bytes file sound trace) in inl (ap (λ x. Ok x) same)
written-answer names bytes file (Err (Bad line kind)) sound trace told =
    let two : ◌≡◌ {A = Result TraceFile Fault} (Ok file) (Err (line, kind)) =
    sym (trace-read names bytes file sound trace)
    ∙ fault-read names bytes (read_as_trace names bytes) line kind
    (read-found names bytes sound) told in absurd cc
written-answer names bytes file (Err NoMemory) sound trace told = inr refl
