-- A text is read as the trace that it is, and as nothing else.
use Rattle.std.specs.Prelude.{◌==◌, nat_lt, if◌then◌else◌}
use Rattle.std.specs.List.{All, flat_map, join_with_byte}
use Rattle.std.proofs.Common.{◌≡◌, ◌⊎◌, ℕ, ◌+◌, ◌≤◌, Bool, true, false, List, [], ◌∷◌, ◌++◌, length}
use Rattle.std.proofs.Common.{Option, Some, None, Result, Ok, Err, refl, sym, ap, ◌∙◌, arith}
use Rattle.std.proofs.Common.{append_assoc}
use Rattle.std.proofs.lemmas.Bool.Decides.{nat_tests}
use Rattle.std.proofs.lemmas.List.Elements.{All-nil, All-cons, All-head, All-tail}
use Rattle.std.proofs.lemmas.List.Splits.{slice_split_at, join_with_byte-slice_split}
use Rattle.pct_ask.specs.NameLists.{NameLists, AreNames}
use Rattle.pct_ask.specs.TraceText.{event_words, step_lines, verdict_line_words, line_text}
use Rattle.pct_ask.specs.declared.event.Event.{Event}
use Rattle.pct_ask.specs.declared.verdict.Verdict.{Verdict}
use Rattle.trace_text.specs.Lawful.{IsStep, IsEnd}
use Rattle.pct_ask.specs.Pieces.{pieces_of}
use Rattle.trace_text.specs.reader.StepLines.{row_of}
use Rattle.trace_text.specs.reader.Reading.{Fault, Body, line_or_fault, with_event, body_at_verdict}
use Rattle.trace_text.specs.reader.Reading.{body_from_line, body_of}
use Rattle.trace_text.specs.declared.row.TraceRow.{TraceRow}
use Rattle.trace_text.specs.declared.row.TraceRow.TheVariants.{Step, End}
use Rattle.trace_text.specs.declared.row.SoundTraceRow.{SoundTraceRow}
use Rattle.trace_text.specs.declared.row.SoundTraceRow.TheVariants as sound
use Rattle.trace_text.specs.declared.fault.TraceFault.{TraceFault}
use Rattle.trace_text.specs.declared.fault.TraceFault.TheVariants.{TooLong, OutOfOrder}
use Rattle.pct_ask.proofs.laws.TextBytes.{HasNoEnd}
use Rattle.trace_text.proofs.Bodies.{past-unknown, line_or_fault-within}
use Rattle.trace_text.proofs.Rows.{step-told, step-known, end-told, end-known}

-- ---- the pieces of lines

-- the lines' texts, and nothing after the last
abbrev pub line_pieces : List (List (List ℕ)) → List (List ℕ)
line_pieces [] = [] ∷ []
line_pieces (line ∷ lines) = join_with_byte 32 line ∷ line_pieces lines

abbrev pub HaveNoEnds : List (List (List ℕ)) → Type 0
HaveNoEnds [] = Unit {0}
HaveNoEnds (line ∷ lines) = HasNoEnd (join_with_byte 32 line) × HaveNoEnds lines

-- the pieces of a text of lines
pub pieces-lines : (lines : List (List (List ℕ))) → HaveNoEnds lines
    → pieces_of (flat_map line_text lines) ≡ line_pieces lines
pieces-lines [] h = refl
pieces-lines (line ∷ lines) h =
    ap pieces_of (append_assoc (join_with_byte 32 line) (10 ∷ []) (flat_map line_text lines))
    ∙ slice_split_at (λ b. b == 10) (join_with_byte 32 line) 10 (flat_map line_text lines) h.0 refl
    ∙ ap (λ ps. join_with_byte 32 line ∷ ps) (pieces-lines lines h.1)

-- some piece is first
pub line_pieces-some : (lines : List (List (List ℕ)))
    → (piece : List ℕ) × (pieces : List (List ℕ)) × (line_pieces lines ≡ piece ∷ pieces)
line_pieces-some [] = ([], [], refl)
line_pieces-some (line ∷ lines) = (join_with_byte 32 line, line_pieces lines, refl)

joined-lines : (lines : List (List (List ℕ)))
    → join_with_byte 10 (line_pieces lines) ≡ flat_map line_text lines
joined-lines [] = refl
joined-lines (line ∷ lines) =
    let some = line_pieces-some lines in
    let more : join_with_byte 10 (some.0 ∷ some.1) ≡ flat_map line_text lines =
    ap (join_with_byte 10) (sym some.2) ∙ joined-lines lines in
    ap (λ ps. join_with_byte 10 (join_with_byte 32 line ∷ ps)) some.2
    ∙ ap (λ (x : List ℕ). join_with_byte 32 line ++ (10 ∷ x)) more
    ∙ sym (append_assoc (join_with_byte 32 line) (10 ∷ []) (flat_map line_text lines))

-- and a text of these pieces is that text
pub text-pieces : (bytes : List ℕ) (lines : List (List (List ℕ)))
    → pieces_of bytes ≡ line_pieces lines → bytes ≡ flat_map line_text lines
text-pieces bytes lines h =
    sym (join_with_byte-slice_split 10 bytes) ∙ ap (join_with_byte 10) h ∙ joined-lines lines

-- ---- what a sound line is

row-by : (past same : Bool) (next number : ℕ) (event other : Event) → (number == next) ≡ same
    → (if past then Err TooLong else (if same then Ok (sound.Step event) else Err OutOfOrder))
    ≡ Ok (sound.Step other) → (number ≡ next) × (event ≡ other)
row-by true same next number event other q h = absurd cc
row-by false false next number event other q h = absurd cc
row-by false true next number event other q h =
    let steps : sound.Step event ≡ sound.Step other = cc in
    let same : event ≡ other = cc in
    (grind (arith, nat_tests), same)

no-last : (past same : Bool) (event : Event) (verdict : Verdict)
    → (if past then Err TooLong else (if same then Ok (sound.Step event) else Err OutOfOrder))
    ≡ Ok (sound.Last verdict) → ⊥
no-last true same event verdict h = cc
no-last false true event verdict h = cc
no-last false false event verdict h = cc

pub line_or_fault-step : (limit next : ℕ) (row : Option TraceRow) (event : Event)
    → line_or_fault limit next row ≡ Ok (sound.Step event) → row ≡ Some (Step next (Some event))
line_or_fault-step limit next None event h = absurd cc
line_or_fault-step limit next (Some (Step number None)) event h =
    absurd (past-unknown (nat_lt limit number) (sound.Step event) h)
line_or_fault-step limit next (Some (Step number (Some e))) event h =
    let r = row-by (nat_lt limit number) (number == next) next number e event refl h in
    rw (r.0, r.1)
line_or_fault-step limit next (Some (End None)) event h = absurd cc
line_or_fault-step limit next (Some (End (Some verdict))) event h = absurd cc

pub line_or_fault-last : (limit next : ℕ) (row : Option TraceRow) (verdict : Verdict)
    → line_or_fault limit next row ≡ Ok (sound.Last verdict) → row ≡ Some (End (Some verdict))
line_or_fault-last limit next None verdict h = absurd cc
line_or_fault-last limit next (Some (Step number None)) verdict h =
    absurd (past-unknown (nat_lt limit number) (sound.Last verdict) h)
line_or_fault-last limit next (Some (Step number (Some e))) verdict h =
    absurd (no-last (nat_lt limit number) (number == next) e verdict h)
line_or_fault-last limit next (Some (End None)) verdict h = absurd cc
line_or_fault-last limit next (Some (End (Some other))) verdict h =
    let ends : sound.Last other ≡ sound.Last verdict = cc in
    let same : other ≡ verdict = cc in
    ap (λ v. Some (End (Some v))) same

pub step-line_or_fault : (limit next : ℕ) (event : Event) → next ≤ limit
    → line_or_fault limit next (Some (Step next (Some event))) ≡ Ok (sound.Step event)
step-line_or_fault limit next event h =
    let a : nat_lt limit next ≡ false = grind (arith, nat_tests) in
    let b : (next == next) ≡ true = grind (arith, nat_tests) in
    rw (a, b)

-- ---- the lines after a head

-- the pieces are those of these steps and this verdict
pub record IsBody (names : NameLists) (version limit next : ℕ) (pieces : List (List ℕ))
    (events : List Event) (verdict : Verdict) : Type 0 where
  pub lines : pieces
      ≡ line_pieces (step_lines names next events ++ verdict_line_words names verdict ∷ [])
  pub steps : All (IsStep names version) events
  pub end : IsEnd names version verdict
  pub few : next + length events ≤ limit + 1

pair-parts : (a b : List Event) (u v : Verdict)
    → ◌≡◌ {A = Result Body Fault} (Ok (a, u)) (Ok (b, v)) → (a ≡ b) × (u ≡ v)
pair-parts a b u v h =
    let same : ◌≡◌ {A = Body} (a, u) (b, v) = cc in
    (ap (λ p. p.0) same, ap (λ p. p.1) same)

body_at_verdict-inv : (line : ℕ) (verdict other : Verdict) (piece : List ℕ) (pieces : List (List ℕ))
    (events : List Event) → body_at_verdict line verdict piece pieces ≡ Ok (events, other)
    → (piece ∷ pieces ≡ [] ∷ []) × (events ≡ []) × (verdict ≡ other)
body_at_verdict-inv line verdict other [] [] events h =
    let p = pair-parts [] events verdict other h in (refl, sym p.0, p.1)
body_at_verdict-inv line verdict other [] (piece ∷ pieces) events h = absurd cc
body_at_verdict-inv line verdict other (b ∷ bs) pieces events h = absurd cc

event-inv : (event : Event) (others : Result Body Fault) (events : List Event) (verdict : Verdict)
    → with_event event others ≡ Ok (events, verdict)
    → (es : List Event) × (others ≡ Ok (es, verdict)) × (event ∷ es ≡ events)
event-inv event (Err fault) events verdict h = absurd cc
event-inv event (Ok body) events verdict h =
    let p = pair-parts (event ∷ body.0) events body.1 verdict h in
    (body.0, ap (λ v. Ok (body.0, v)) p.1, p.0)

body-last : (names : NameLists) (version limit next : ℕ) (piece after : List ℕ)
    (pieces : List (List ℕ)) (events : List Event) (verdict other : Verdict)
    → (version ≡ 1) ⊎ (version ≡ 2) → next ≤ limit + 1
    → row_of names version piece ≡ Some (End (Some verdict)) → after ∷ pieces ≡ [] ∷ []
    → events ≡ [] → verdict ≡ other → IsBody names version limit next (piece ∷ after ∷ pieces)
    events other
body-last names version limit next piece after pieces events verdict other which within row last
    none same =
    let told = end-told names version piece verdict which row in
    let own : IsBody names version limit next (piece ∷ [] ∷ []) [] verdict = record {
      lines = ap (λ t. t ∷ [] ∷ []) told.text_is;
      steps = All-nil (IsStep names version);
      end = told.lawful;
      few = omega arith;
    } in
    rw (none, ← same, last) own

body-more : (names : NameLists) (version limit next : ℕ) (piece : List ℕ) (pieces : List (List ℕ))
    (event : Event) (es events : List Event) (verdict : Verdict)
    → row_of names version piece ≡ Some (Step next (Some event)) → event ∷ es ≡ events
    → IsBody names version limit (next + 1) pieces es verdict
    → IsBody names version limit next (piece ∷ pieces) events verdict
body-more names version limit next piece pieces event es events verdict row are others =
    let told = step-told names version piece next event row in
    let own : IsBody names version limit next (piece ∷ pieces) (event ∷ es) verdict = record {
      lines =
          ap (λ t. t ∷ pieces) told.0 ∙ ap
          (λ ps. join_with_byte 32 (event_words names next event) ∷ ps) others.lines;
      steps = All-cons (IsStep names version) event es told.1 others.steps;
      end = others.end;
      few = omega (arith, others.few);
    } in
    rw are at own

body-by : (names : NameLists) (version limit next : ℕ) (piece after : List ℕ)
    (pieces : List (List ℕ)) (events : List Event) (verdict : Verdict)
    → (version ≡ 1) ⊎ (version ≡ 2) → next ≤ limit + 1
    → ((es : List Event) → next + 1 ≤ limit + 1
    → body_of names version limit (next + 1) (after ∷ pieces) ≡ Ok (es, verdict)
    → IsBody names version limit (next + 1) (after ∷ pieces) es verdict)
    → (read : Result SoundTraceRow TraceFault)
    → line_or_fault limit next (row_of names version piece) ≡ read
    → body_from_line (next + 4) read after pieces
    (body_of names version limit (next + 1) (after ∷ pieces)) ≡ Ok (events, verdict)
    → IsBody names version limit next (piece ∷ after ∷ pieces) events verdict
body-by names version limit next piece after pieces events verdict which within others (Err kind) j
    e = absurd cc
body-by names version limit next piece after pieces events verdict which within others
    (Ok (sound.Step event)) j e =
    let i = event-inv event (body_of names version limit (next + 1) (after ∷ pieces)) events verdict
    e in
    let small = line_or_fault-within limit next (row_of names version piece) event j in
    body-more names version limit next piece (after ∷ pieces) event i.0 events verdict
    (line_or_fault-step limit next (row_of names version piece) event j) i.2
    (others i.0 (omega arith) i.1)
body-by names version limit next piece after pieces events verdict which within others
    (Ok (sound.Last other)) j e =
    let i = body_at_verdict-inv (next + 4 + 1) other verdict after pieces events e in
    body-last names version limit next piece after pieces events other verdict which within
    (line_or_fault-last limit next (row_of names version piece) other j) i.0 i.1 i.2

-- what is read after a head are steps and a verdict
pub body-told : (names : NameLists) (version limit next : ℕ) (pieces : List (List ℕ))
    (events : List Event) (verdict : Verdict) → (version ≡ 1) ⊎ (version ≡ 2) → next ≤ limit + 1
    → body_of names version limit next pieces ≡ Ok (events, verdict)
    → IsBody names version limit next pieces events verdict
body-told names version limit next [] events verdict which within h = absurd cc
body-told names version limit next (piece ∷ []) events verdict which within h = absurd cc
body-told names version limit next (piece ∷ after ∷ pieces) events verdict which within h =
    body-by names version limit next piece after pieces events verdict which within
    (λ es small. body-told names version limit (next + 1) (after ∷ pieces) es verdict which
    small) (line_or_fault limit next (row_of names version piece)) refl h

-- and steps and a verdict are read
pub body-known : (names : NameLists) (version limit next : ℕ) (events : List Event)
    (verdict : Verdict) → AreNames names → All (IsStep names version) events
    → IsEnd names version verdict → next + length events ≤ limit + 1 → limit ≤ 100000
    → body_of names version limit next
    (line_pieces (step_lines names next events ++ verdict_line_words names verdict ∷ []))
    ≡ Ok (events, verdict)
body-known names version limit next [] verdict sound steps end few small =
    let row = end-known names version verdict sound end in rw row
body-known names version limit next (event ∷ events) verdict sound steps end few small =
    let step = step-known names version next event sound
    (All-head (IsStep names version) event events steps) (omega arith) in
    let judge = step-line_or_fault limit next event (omega arith) in
    let others = body-known names version limit (next + 1) events verdict sound
    (All-tail (IsStep names version) event events steps) end (omega arith) small in
    let some = line_pieces-some (step_lines names (next + 1) events
    ++ verdict_line_words names verdict ∷ []) in
    let others_here : body_of names version limit (next + 1) (some.0 ∷ some.1)
    ≡ Ok (events, verdict) = ap (body_of names version limit (next + 1)) (sym some.2)
    ∙ others in
    ap (λ ps. body_of names version limit next
    (join_with_byte 32 (event_words names next event) ∷ ps)) some.2
    ∙ ap (λ row. body_from_line (next + 4) (line_or_fault limit next row) some.0 some.1
    (body_of names version limit (next + 1) (some.0 ∷ some.1))) step
    ∙ ap (λ read. body_from_line (next + 4) read some.0 some.1
    (body_of names version limit (next + 1) (some.0 ∷ some.1))) judge
    ∙ ap (with_event event) others_here
