-- Each text is one trace or has one first fault.
use Rattle.std.proofs.Common.{◌≡◌, ℕ, List, Result, Ok, Err, inl, inr, refl, sym, ◌∙◌}
use Rattle.std.specs.Prelude.{length}
use Rattle.pct_ask.specs.NameLists.{NameLists, AreNames}
use Rattle.pct_ask.specs.Pieces.{pieces_of}
use Rattle.trace_text.specs.reader.Reading.{Fault, read_as_trace}
use Rattle.trace_text.specs.Trace.{IsTrace}
use Rattle.trace_text.specs.Faults.{IsTraceFault}
use Rattle.trace_text.specs.Answers.{HasOneAnswer}
use Rattle.trace_text.specs.declared.file.TraceFile.{TraceFile}
use Rattle.trace_text.specs.declared.fault.TraceFault.{TraceFault}
use Rattle.trace_text.specs.declared.fault.TraceError.TheVariants.{Bad}
use Rattle.trace_text.proofs.laws.Faults.{one-fault}
use Rattle.trace_text.proofs.Traces.{answer-given, read-found, trace-read, fault-read, ok_is}

module _ (names : NameLists) (sound : AreNames names) (bytes : List ℕ) where
  no-both : (file : TraceFile) (line : ℕ) (kind : TraceFault) → IsTrace bytes names file
      → ¬ IsTraceFault bytes names line kind
  no-both file line kind trace fault =
      let two : ◌≡◌ {A = Result TraceFile Fault} (Ok file) (Err (line, kind)) =
      sym (trace-read names bytes file sound trace)
      ∙ fault-read names bytes (read_as_trace names bytes) line kind
      (read-found names bytes sound) fault in
      absurd cc

  by_reading : (r : Result TraceFile Fault) → read_as_trace names bytes ≡ r
      → HasOneAnswer bytes names
  by_reading (Ok file) is =
      let trace : IsTrace bytes names file = answer-given names bytes (Ok file) sound is in
      inl (
        file,
        record {
          trace = trace;
          only =
              λ other told. ok_is other file (sym (trace-read names bytes other sound told) ∙ is);
          faultless = λ line kind. no-both file line kind trace;
        },
      )
  by_reading (Err fault) is =
      let first : IsTraceFault bytes names fault.0 fault.1 =
      answer-given names bytes (Err (Bad fault.0 fault.1)) sound is in
      inr (
        fault.0,
        fault.1,
        record {
          fault = first;
          only =
              λ l k other. one-fault (length bytes) names (pieces_of bytes) l fault.0 k fault.1
              other first;
          no_trace = λ file trace. no-both file fault.0 fault.1 trace first;
        },
      )

  pub answers-one : HasOneAnswer bytes names
  answers-one = by_reading (read_as_trace names bytes) refl

pub one-answer : (names : NameLists) → AreNames names → (bytes : List ℕ) → HasOneAnswer bytes names
one-answer = answers-one
