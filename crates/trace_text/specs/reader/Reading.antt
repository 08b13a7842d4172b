-- Reading a trace from its first line to its last (this project).
use Rattle.std.specs.Prelude.{ℕ, ◌+◌, ◌==◌, nat_lt, if◌then◌else◌, List, [], ◌∷◌, length, Option}
use Rattle.std.specs.Prelude.{Some, None, Result, Ok, Err}
use Rattle.pct_ask.specs.NameLists.{NameLists}
use Rattle.pct_ask.specs.declared.event.Event.{Event}
use Rattle.pct_ask.specs.declared.verdict.Verdict.{Verdict}
use Rattle.pct_ask.specs.Pieces.{pieces_of}
use Rattle.trace_text.specs.Lines.{is_empty}
use Rattle.trace_text.specs.reader.Heads.{version_on_line, order_on_line, threads_of_names}
use Rattle.trace_text.specs.reader.Heads.{points_on_line, limit_on_line}
use Rattle.trace_text.specs.reader.StepLines.{row_of}
use Rattle.trace_text.specs.declared.row.TraceRow.{TraceRow}
use Rattle.trace_text.specs.declared.row.TraceRow.TheVariants.{Step, End}
use Rattle.trace_text.specs.declared.row.SoundTraceRow.{SoundTraceRow}
use Rattle.trace_text.specs.declared.row.SoundTraceRow.TheVariants as sound
use Rattle.trace_text.specs.declared.fault.TraceFault.{TraceFault}
use Rattle.trace_text.specs.declared.fault.TraceFault.TheVariants.{TooLong, BadHeader, BadLine}
use Rattle.trace_text.specs.declared.fault.TraceFault.TheVariants.{UnknownName, OutOfOrder}
use Rattle.trace_text.specs.declared.fault.TraceFault.TheVariants.{NoVerdict, MoreAfterVerdict}
use Rattle.trace_text.specs.declared.file.TraceFile.{TraceFile}

-- a line, and what is wrong with it
abbrev pub Fault : Type 0
Fault = ℕ × TraceFault

infixl 10 ◌>>=◌
-- what is read next, where nothing was faulty
abbrev pub ◌>>=◌ : {A B : Type 0} → Result A Fault → (A → Result B Fault) → Result B Fault
(Ok x) >>= f = f x
(Err e) >>= f = Err e

-- ---- the head

-- a line of the head: its value, and the pieces after it
abbrev pub head_value : {A : Type 0} → ℕ → Option A → List (List ℕ)
    → Result (A × List (List ℕ)) Fault
head_value line value [] = Err (line, BadHeader)
head_value line None (piece ∷ pieces) = Err (line, BadHeader)
head_value line (Some x) (piece ∷ pieces) = Ok (x, piece ∷ pieces)

-- a line of the head, which says something by its text
abbrev pub head_line : {A : Type 0} → ℕ → (List ℕ → Option A) → List (List ℕ)
    → Result (A × List (List ℕ)) Fault
head_line line says [] = Err (line, BadHeader)
head_line line says (piece ∷ pieces) = head_value line (says piece) pieces

-- the order, where each of its names is a thread's
abbrev pub known_order : Option (List ℕ) → Result (List ℕ) Fault
known_order None = Err (2, UnknownName)
known_order (Some order) = Ok order

-- the line of the order, whose names are threads'
abbrev pub order_line : NameLists → List (List ℕ) → Result (List ℕ × List (List ℕ)) Fault
order_line names pieces = do
  words ← head_line 2 (order_on_line names) pieces
  order ← known_order (threads_of_names names words.0)
  Ok (order, words.1)

-- ---- the steps and the verdict

-- the fault of a line with no LF
abbrev pub unended_fault : ℕ → Option TraceRow → List ℕ → TraceFault
unended_fault limit None text = if is_empty text then NoVerdict else BadLine
unended_fault limit (Some (Step number event)) text =
    if nat_lt limit number then TooLong else BadLine
unended_fault limit (Some (End verdict)) text = BadLine

-- a step line within the limit: its event, where the step has the next number
abbrev pub judged_event : ℕ → ℕ → Option Event → Result SoundTraceRow TraceFault
judged_event next number None = Err UnknownName
judged_event next number (Some event) =
    if number == next then Ok (sound.Step event) else Err OutOfOrder

-- what a line with its LF is, where the next step has this number, or its fault
abbrev pub line_or_fault : ℕ → ℕ → Option TraceRow → Result SoundTraceRow TraceFault
line_or_fault limit next None = Err BadLine
line_or_fault limit next (Some (Step number event)) =
    if nat_lt limit number then Err TooLong else judged_event next number event
line_or_fault limit next (Some (End None)) = Err UnknownName
line_or_fault limit next (Some (End (Some verdict))) = Ok (sound.Last verdict)

-- the steps and the verdict
abbrev pub Body : Type 0
Body = List Event × Verdict

-- one more step before those that are read
abbrev pub with_event : Event → Result Body Fault → Result Body Fault
with_event event (Ok body) = Ok (event ∷ body.0, body.1)
with_event event (Err fault) = Err fault

-- nothing stands after the verdict line
abbrev pub body_at_verdict : ℕ → Verdict → List ℕ → List (List ℕ) → Result Body Fault
body_at_verdict line verdict [] [] = Ok ([], verdict)
body_at_verdict line verdict [] (piece ∷ pieces) = Err (line, MoreAfterVerdict)
body_at_verdict line verdict (b ∷ bs) pieces = Err (line, MoreAfterVerdict)

-- what is read from a line on, by what the line is and what is read of the lines behind it
abbrev pub body_from_line : ℕ → Result SoundTraceRow TraceFault → List ℕ → List (List ℕ)
    → Result Body Fault
    → Result Body Fault
body_from_line line (Err kind) piece pieces others = Err (line, kind)
body_from_line line (Ok (sound.Step event)) piece pieces others = with_event event others
body_from_line line (Ok (sound.Last verdict)) piece pieces others =
    body_at_verdict (line + 1) verdict piece pieces

-- the steps and the verdict, where the next step has this number
abbrev pub body_of : NameLists → ℕ → ℕ → ℕ → List (List ℕ) → Result Body Fault
body_of names version limit next [] = Err (next + 4, NoVerdict)
body_of names version limit next (piece ∷ []) =
    Err (next + 4, unended_fault limit (row_of names version piece) piece)
body_of names version limit next (piece ∷ after ∷ pieces) =
    body_from_line (next + 4) (line_or_fault limit next (row_of names version piece)) after pieces
    (body_of names version limit (next + 1) (after ∷ pieces))

-- ---- the whole

-- the file of a head and a body
abbrev pub file_of : ℕ → List ℕ → List ℕ → ℕ → Body → TraceFile
file_of version order points limit body = record {
  header = record { version = version; order = order; points = points; limit = limit };
  events = body.0;
  verdict = body.1;
}

-- the file that the pieces tell, or the fault
abbrev pub file_in : NameLists → List (List ℕ) → Result TraceFile Fault
file_in names pieces = do
  version ← head_line 1 version_on_line pieces
  order ← order_line names version.1
  points ← head_line 3 points_on_line order.1
  limit ← head_line 4 limit_on_line points.1
  body ← body_of names version.0 limit.0 1 limit.1
  Ok (file_of version.0 order.0 points.0 limit.0 body)

-- the file that a text is read as, or its fault
abbrev pub read_as_trace : NameLists → List ℕ → Result TraceFile Fault
read_as_trace names bytes =
    if nat_lt 16777216 (length bytes) then Err (1, TooLong) else file_in names (pieces_of bytes)
