-- How the lines after a head are read, one after another.
use Rattle.std.specs.Prelude.{◌==◌, if◌then◌else◌}
use Rattle.std.specs.List.{onto_first}
use Rattle.std.proofs.lemmas.Bool.Decides.{nat_tests}
use Rattle.std.proofs.Common.{◌≡◌, ℕ, ◌+◌, ◌≤◌, Bool, true, false, cond, List, [], ◌∷◌, ◌++◌}
use Rattle.std.proofs.Common.{length, Option, Some, None, Result, Ok, Err, Bor, nat_lt, refl, sym}
use Rattle.std.proofs.Common.{◌∙◌, ap, arith, append_assoc, append-nil}
use Rattle.pct_ask.specs.NameLists.{NameLists}
use Rattle.pct_ask.specs.declared.event.Event.{Event}
use Rattle.pct_ask.specs.declared.verdict.Verdict.{Verdict}
use Rattle.pct_ask.specs.Pieces.{pieces_of, pieces_after}
use Rattle.pct_ask.proofs.laws.Splits.{parts_of-some}
use Rattle.pct_ask.proofs.laws.TextPieces.{pieces-cut}
use Rattle.trace_text.specs.Lines.{is_empty}
use Rattle.trace_text.specs.reader.StepLines.{row_of}
use Rattle.trace_text.specs.reader.Reading.{Fault, Body, unended_fault, line_or_fault, with_event}
use Rattle.trace_text.specs.reader.Reading.{body_at_verdict, body_from_line, body_of}
use Rattle.trace_text.specs.declared.row.TraceRow.{TraceRow}
use Rattle.trace_text.specs.declared.row.TraceRow.TheVariants.{Step, End}
use Rattle.trace_text.specs.declared.row.SoundTraceRow.{SoundTraceRow}
use Rattle.trace_text.specs.declared.row.SoundTraceRow.TheVariants as sound
use Rattle.trace_text.specs.declared.fault.TraceFault.{TraceFault}
use Rattle.trace_text.specs.declared.fault.TraceFault.TheVariants.{TooLong, UnknownName, OutOfOrder}
use Rattle.trace_text.specs.declared.fault.TraceFault.TheVariants.{MoreAfterVerdict}

-- the same behind other steps
abbrev pub with_events : List Event → Result Body Fault → Result Body Fault
with_events front (Ok body) = Ok (front ++ body.0, body.1)
with_events front (Err fault) = Err fault

pub with_events-push : (front : List Event) (event : Event) (rest : Result Body Fault)
    → with_events (front ++ event ∷ []) rest ≡ with_events front (with_event event rest)
with_events-push front event (Ok body) =
    ap (λ events. Ok (events, body.1)) (append_assoc front (event ∷ []) body.0)
with_events-push front event (Err fault) = refl

-- a line with its LF, and the text after it
abbrev pub line_then : ℕ → Result SoundTraceRow TraceFault → List ℕ → Result Body Fault
    → Result Body Fault
line_then line (Err kind) after others = Err (line, kind)
line_then line (Ok (sound.Step event)) after others = with_event event others
line_then line (Ok (sound.Last verdict)) after others =
    if is_empty after then Ok ([], verdict) else Err (line + 1, MoreAfterVerdict)

body_at_verdict-more : (t : Bool) (line : ℕ) (verdict : Verdict) (b : ℕ) (bs piece : List ℕ)
    (pieces : List (List ℕ)) → cond t ([] ∷ pieces_of bs) (onto_first b (pieces_of bs))
    ≡ piece ∷ pieces → body_at_verdict line verdict piece pieces ≡ Err (line, MoreAfterVerdict)
body_at_verdict-more true line verdict b bs piece pieces is =
    let some = parts_of-some 10 bs in
    let first : [] ≡ piece = cc in
    let others : pieces_of bs ≡ pieces = cc in
    rw (← first, ← others, some.2)
body_at_verdict-more false line verdict b bs piece pieces is =
    let some = parts_of-some 10 bs in
    let shown : (b ∷ some.0) ∷ some.1 ≡ piece ∷ pieces = rw some.2 at is in
    let first : b ∷ some.0 ≡ piece = cc in
    rw (← first)

body_at_verdict-after : (line : ℕ) (verdict : Verdict) (after piece : List ℕ)
    (pieces : List (List ℕ)) → pieces_of after ≡ piece ∷ pieces
    → body_at_verdict line verdict piece pieces
    ≡ (if is_empty after then Ok ([], verdict) else Err (line, MoreAfterVerdict))
body_at_verdict-after line verdict [] piece pieces is =
    let first : [] ≡ piece = cc in
    let others : [] ≡ pieces = cc in
    rw (← first, ← others)
body_at_verdict-after line verdict (b ∷ bs) piece pieces is =
    body_at_verdict-more (b == 10) line verdict b bs piece pieces is

line-after : (line : ℕ) (read : Result SoundTraceRow TraceFault) (after piece : List ℕ)
    (pieces : List (List ℕ)) (others : Result Body Fault) → pieces_of after ≡ piece ∷ pieces
    → body_from_line line read piece pieces others ≡ line_then line read after others
line-after line (Err kind) after piece pieces others is = refl
line-after line (Ok (sound.Step event)) after piece pieces others is = refl
line-after line (Ok (sound.Last verdict)) after piece pieces others is =
    body_at_verdict-after (line + 1) verdict after piece pieces is

-- a line that has its LF
pub body-line : (names : NameLists) (version limit next : ℕ) (pieces : List (List ℕ))
    (text after : List ℕ) (row : Option TraceRow) → pieces ≡ text ∷ pieces_of after
    → row ≡ row_of names version text
    → body_of names version limit next pieces
    ≡ line_then (next + 4) (line_or_fault limit next row) after
    (body_of names version limit (next + 1) (pieces_of after))
body-line names version limit next pieces text after row is says =
    let some = parts_of-some 10 after in
    let whole : pieces ≡ text ∷ some.0 ∷ some.1 = is ∙ ap (λ ps. text ∷ ps) some.2 in
    ap (body_of names version limit next) whole
    ∙ line-after (next + 4) (line_or_fault limit next (row_of names version text)) after some.0
    some.1 (body_of names version limit (next + 1) (some.0 ∷ some.1)) some.2
    ∙ ap (λ ps. line_then (next + 4) (line_or_fault limit next (row_of names version text)) after
    (body_of names version limit (next + 1) ps)) (sym some.2)
    ∙ ap (λ r. line_then (next + 4) (line_or_fault limit next r) after
    (body_of names version limit (next + 1) (pieces_of after))) (sym says)

-- a line that lacks its LF
pub body-unended : (names : NameLists) (version limit next : ℕ) (pieces : List (List ℕ))
    (text : List ℕ) (row : Option TraceRow) → pieces ≡ text ∷ [] → row ≡ row_of names version text
    → body_of names version limit next pieces ≡ Err (next + 4, unended_fault limit row text)
body-unended names version limit next pieces text row is says =
    ap (body_of names version limit next) is
    ∙ ap (λ r. Err (next + 4, unended_fault limit r text)) (sym says)

-- ---- with the steps that were read before

-- a line that has its LF, after the steps before
pub body-read : (names : NameLists) (version limit next : ℕ) (events : List Event)
    (pieces : List (List ℕ)) (text : List ℕ) (rest : Option (Bor (List ℕ))) (after : Bor (List ℕ))
    (row : Option TraceRow) (read : Result SoundTraceRow TraceFault) (start : Result Body Fault)
    → with_events events (body_of names version limit next pieces) ≡ start
    → pieces ≡ text ∷ pieces_after rest → rest ≡ Some after → row ≡ row_of names version text
    → line_or_fault limit next row ≡ read
    → start ≡ with_events events (line_then (next + 4) read after.now
    (body_of names version limit (next + 1) (pieces_of after.now)))
body-read names version limit next events pieces text rest after row read start same is some says
    judge =
    sym same
    ∙ ap (with_events events) (body-line names version limit next pieces text after.now row
    (pieces-cut pieces text rest after is some) says
    ∙ ap (λ r. line_then (next + 4) r after.now
    (body_of names version limit (next + 1) (pieces_of after.now))) judge)

-- after the verdict nothing stands
pub last-empty : (events : List Event) (line : ℕ) (verdict : Verdict) (after : List ℕ)
    (others : Result Body Fault) → length after ≡ 0
    → with_events events (line_then line (Ok (sound.Last verdict)) after others)
    ≡ Ok (events, verdict)
last-empty events line verdict [] others none = ap (λ es. Ok (es, verdict)) (append-nil events)
last-empty events line verdict (b ∷ bs) others none = absurd (omega arith)

-- or something does
pub last-more : (events : List Event) (line : ℕ) (verdict : Verdict) (after : List ℕ)
    (others : Result Body Fault) → (length after ≡ 0 → ⊥)
    → with_events events (line_then line (Ok (sound.Last verdict)) after others)
    ≡ Err (line + 1, MoreAfterVerdict)
last-more events line verdict [] others some = absurd (some refl)
last-more events line verdict (b ∷ bs) others some = refl

within-by : (past same : Bool) (limit next number : ℕ) (event other : Event)
    → nat_lt limit number ≡ past → (number == next) ≡ same
    → (if past then Err TooLong else (if same then Ok (sound.Step event) else Err OutOfOrder))
    ≡ Ok (sound.Step other) → next ≤ limit
within-by true same limit next number event other p q h = absurd cc
within-by false false limit next number event other p q h = absurd cc
within-by false true limit next number event other p q h = grind (arith, nat_tests)

-- a step that is too late or of an unknown name is no sound line
pub past-unknown : (past : Bool) (s : SoundTraceRow)
    → (if past then Err TooLong else Err UnknownName) ≡ Ok s → ⊥
past-unknown true s h = cc
past-unknown false s h = cc

-- a sound step is within the limit
pub line_or_fault-within : (limit next : ℕ) (row : Option TraceRow) (event : Event)
    → line_or_fault limit next row ≡ Ok (sound.Step event) → next ≤ limit
line_or_fault-within limit next None event h = absurd cc
line_or_fault-within limit next (Some (Step number None)) event h =
    absurd (past-unknown (nat_lt limit number) (sound.Step event) h)
line_or_fault-within limit next (Some (Step number (Some e))) event h =
    within-by (nat_lt limit number) (number == next) limit next number e event refl refl h
line_or_fault-within limit next (Some (End None)) event h = absurd cc
line_or_fault-within limit next (Some (End (Some verdict))) event h = absurd cc
