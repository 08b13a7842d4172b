-- The first faults of known texts.
use Rattle.std.specs.Prelude.{codes}
use Rattle.std.specs.Fmt.{digits}
use Rattle.std.specs.List.{All, list_all}
use Rattle.std.proofs.Common.{◌≡◌, ℕ, ◌≤◌, true, List, [], ◌∷◌, length, Result, Err, refl, arith}
use Rattle.std.proofs.lemmas.List.Elements.{All-nil, All-cons}
use Rattle.std.proofs.lemmas.Bool.{and_parts}
use Rattle.pct_ask.specs.Words.{is_name}
use Rattle.pct_ask.specs.NameLists.{AreNames, list_of, all_names}
use Rattle.pct_ask.specs.declared.names.NameKind.{NameKind}
use Rattle.pct_ask.specs.declared.names.NameKind.TheVariants.{Thread, Var, Mutex, Cond, Sem}
use Rattle.pct_ask.specs.declared.names.NameKind.TheVariants.{Barrier, RwLock}
use Rattle.pct_ask.specs.Numbers.{number_in}
use Rattle.pct_ask.specs.TraceVerbs.{verb_in}
use Rattle.trace_text.specs.reader.Asks.{ask_of_words}
use Rattle.trace_text.specs.Faults.{IsTraceFault}
use Rattle.trace_text.specs.reader.Numbers.{i64_in}
use Rattle.trace_text.specs.reader.Reading.{Fault, read_as_trace}
use Rattle.trace_text.specs.Rows.{some_names}
use Rattle.trace_text.specs.reader.StepLines.{row_of, step_in_words}
use Rattle.trace_text.specs.declared.file.TraceFile.{TraceFile}
use Rattle.trace_text.specs.declared.fault.TraceFault.{TraceFault}
use Rattle.trace_text.specs.declared.fault.TraceFault.TheVariants.{TooLong, BadHeader, BadLine}
use Rattle.trace_text.specs.declared.fault.TraceFault.TheVariants.{UnknownName, OutOfOrder}
use Rattle.trace_text.specs.declared.fault.TraceFault.TheVariants.{NoVerdict, MoreAfterVerdict}
use Rattle.trace_text.specs.declared.fault.TraceError.TheVariants.{Bad}
use Rattle.trace_text.proofs.Traces.{answer-given}

all-names : (words : List (List ℕ)) → list_all (is_name 1) words ≡ true
    → All (λ name. is_name 1 name ≡ true) words
all-names [] h = All-nil (λ (name : List ℕ). is_name 1 name ≡ true)
all-names (w ∷ ws) h =
    All-cons (λ (name : List ℕ). is_name 1 name ≡ true) w ws
    (and_parts (is_name 1 w) (list_all (is_name 1) ws) h).0
    (all-names ws (and_parts (is_name 1 w) (list_all (is_name 1) ws) h).1)

few-names : (kind : NameKind) → length (list_of kind some_names) ≤ 64
few-names Thread = omega arith
few-names Var = omega arith
few-names Mutex = omega arith
few-names Cond = omega arith
few-names Sem = omega arith
few-names Barrier = omega arith
few-names RwLock = omega arith

are-names : AreNames some_names
are-names = record {
  lawful = all-names (all_names some_names) refl;
  distinct = (refl, (refl, (refl, (refl, tt))));
  few = few-names;
}

-- what the reader finds in a text is the text's fault
found : (text : List ℕ) (line : ℕ) (kind : TraceFault)
    → ◌≡◌ {A = Result TraceFile Fault} (read_as_trace some_names text) (Err (line, kind))
    → IsTraceFault text some_names line kind
found text line kind h = answer-given some_names text (Err (Bad line kind)) are-names h

pub empty-file : IsTraceFault [] some_names 1 BadHeader
empty-file = found [] 1 BadHeader refl

pub other-version : IsTraceFault (codes "trace 3\norder A B\npoints\nlimit 9\nverdict cut\n")
    some_names 1 BadHeader
other-version = found (codes "trace 3\norder A B\npoints\nlimit 9\nverdict cut\n") 1 BadHeader refl

pub too-few-threads : IsTraceFault (codes "trace 1\norder A\npoints\nlimit 9\nverdict cut\n")
    some_names 2 BadHeader
too-few-threads = found (codes "trace 1\norder A\npoints\nlimit 9\nverdict cut\n") 2 BadHeader refl

pub thread-twice : IsTraceFault (codes "trace 1\norder A A\npoints\nlimit 9\nverdict cut\n")
    some_names 2 BadHeader
thread-twice = found (codes "trace 1\norder A A\npoints\nlimit 9\nverdict cut\n") 2 BadHeader refl

pub unknown-thread : IsTraceFault (codes "trace 1\norder A Z\npoints\nlimit 9\nverdict cut\n")
    some_names 2 UnknownName
unknown-thread =
    found (codes "trace 1\norder A Z\npoints\nlimit 9\nverdict cut\n") 2 UnknownName refl

pub head-without-end : IsTraceFault (codes "trace 1\norder A B\npoints\nlimit 9") some_names 4
    BadHeader
unfolding i64_in digits
head-without-end = found (codes "trace 1\norder A B\npoints\nlimit 9") 4 BadHeader refl

pub leading-zero : IsTraceFault (codes
    "trace 1\norder A B\npoints\nlimit 9\n01 A 4 read x = 0\nverdict cut\n") some_names 5 BadLine
unfolding row_of step_in_words ask_of_words verb_in i64_in number_in digits
leading-zero =
    found (codes "trace 1\norder A B\npoints\nlimit 9\n01 A 4 read x = 0\nverdict cut\n") 5 BadLine
    refl

pub cut-line : IsTraceFault (codes "trace 1\norder A B\npoints\nlimit 9\n1 A 4 re") some_names 5
    BadLine
unfolding row_of step_in_words ask_of_words verb_in i64_in number_in digits
cut-line = found (codes "trace 1\norder A B\npoints\nlimit 9\n1 A 4 re") 5 BadLine refl

pub lock-of-second-version : IsTraceFault
    (codes "trace 1\norder A B\npoints\nlimit 9\n1 A 5 rdlock l = 0\nverdict cut\n") some_names 5
    BadLine
unfolding row_of step_in_words ask_of_words verb_in i64_in number_in digits
lock-of-second-version =
    found (codes "trace 1\norder A B\npoints\nlimit 9\n1 A 5 rdlock l = 0\nverdict cut\n") 5 BadLine
    refl

pub unknown-variable : IsTraceFault
    (codes "trace 1\norder A B\npoints\nlimit 9\n1 A 4 read y = 0\nverdict cut\n") some_names 5
    UnknownName
unfolding row_of step_in_words ask_of_words verb_in i64_in number_in digits
unknown-variable =
    found (codes "trace 1\norder A B\npoints\nlimit 9\n1 A 4 read y = 0\nverdict cut\n") 5
    UnknownName refl

pub first-is-second : IsTraceFault
    (codes "trace 1\norder A B\npoints\nlimit 9\n2 A 4 read x = 0\nverdict cut\n") some_names 5
    OutOfOrder
unfolding row_of step_in_words ask_of_words verb_in i64_in number_in digits
first-is-second =
    found (codes "trace 1\norder A B\npoints\nlimit 9\n2 A 4 read x = 0\nverdict cut\n") 5
    OutOfOrder refl

pub step-zero : IsTraceFault (codes
    "trace 1\norder A B\npoints\nlimit 9\n0 A 4 read x = 0\nverdict cut\n") some_names 5 OutOfOrder
unfolding row_of step_in_words ask_of_words verb_in i64_in number_in digits
step-zero =
    found (codes "trace 1\norder A B\npoints\nlimit 9\n0 A 4 read x = 0\nverdict cut\n") 5
    OutOfOrder refl

pub past-the-limit : IsTraceFault (codes
    "trace 1\norder A B\npoints\nlimit 1\n2 A 4 read y = 0\nverdict cut\n") some_names 5 TooLong
unfolding row_of step_in_words ask_of_words verb_in i64_in number_in digits
past-the-limit =
    found (codes "trace 1\norder A B\npoints\nlimit 1\n2 A 4 read y = 0\nverdict cut\n") 5 TooLong
    refl

pub no-verdict : IsTraceFault (codes "trace 1\norder A B\npoints\nlimit 9\n1 A 4 yield = 0\n")
    some_names 6 NoVerdict
unfolding row_of step_in_words ask_of_words verb_in i64_in number_in digits
no-verdict = found (codes "trace 1\norder A B\npoints\nlimit 9\n1 A 4 yield = 0\n") 6 NoVerdict refl

pub after-the-verdict : IsTraceFault (codes "trace 1\norder A B\npoints\nlimit 9\nverdict cut\nx\n")
    some_names 6 MoreAfterVerdict
unfolding row_of step_in_words ask_of_words verb_in i64_in number_in digits
after-the-verdict =
    found (codes "trace 1\norder A B\npoints\nlimit 9\nverdict cut\nx\n") 6 MoreAfterVerdict refl
