-- How the lines of a directive are read, one after another.
use Rattle.std.specs.Prelude.{◌==◌, if◌then◌else◌, codes, nat_lt, MatchOption}
use Rattle.std.specs.List.{onto_first}
use Rattle.std.specs.Str.{bytes_eq}
use Rattle.std.proofs.Common.{◌≡◌, ℕ, ◌+◌, ◌≤◌, Bool, true, false, cond, List, [], ◌∷◌, ◌++◌}
use Rattle.std.proofs.Common.{length, take, get_or, Option, Some, None, Result, Ok, Err, Bor, refl}
use Rattle.std.proofs.Common.{sym, ◌∙◌, ap, arith, append_assoc, append-nil}
use Rattle.std.proofs.lemmas.Bool.Decides.{nat_tests}
use Rattle.pct_ask.specs.NameLists.{NameLists, place_of}
use Rattle.pct_ask.specs.VerdictWords.{words_of}
use Rattle.pct_ask.specs.declared.verdict.Verdict.{Verdict}
use Rattle.rank_now.specs.declared.moment.Moment.{Moment}
use Rattle.pct_ask.specs.Pieces.{pieces_of, seen, pieces_after}
use Rattle.pct_ask.proofs.laws.Splits.{parts_of-some}
use Rattle.pct_ask.proofs.laws.TextPieces.{pieces-cut}
use Rattle.directive.specs.Reading.{Fault, Body, row_of, low_words, after_words, low_in}
use Rattle.directive.specs.Reading.{line_or_fault, unended_fault, with_moment, body_at_verdict}
use Rattle.directive.specs.Reading.{after_row, body_of, low_read, low_known, second_line}
use Rattle.directive.specs.Reading.{read_from_first}
use Rattle.directive.specs.Seen.{Fails}
use Rattle.directive.specs.declared.fault.DirectiveError.{DirectiveError}
use Rattle.directive.specs.declared.fault.DirectiveError.TheVariants.{Bad}
use Rattle.directive.specs.declared.row.DirectiveRow.{DirectiveRow}
use Rattle.directive.specs.declared.row.DirectiveRow.TheVariants.{After, End}
use Rattle.directive.specs.declared.row.SoundDirectiveRow.{SoundDirectiveRow}
use Rattle.directive.specs.declared.row.SoundDirectiveRow.TheVariants as sound
use Rattle.directive.specs.declared.fault.DirectiveFault.{DirectiveFault}
use Rattle.directive.specs.declared.fault.DirectiveFault.TheVariants.{TooLong, BadHeader}
use Rattle.directive.specs.declared.fault.DirectiveFault.TheVariants.{MoreAfterVerdict}

-- only the first four words count
pub after_words-take : (names : NameLists) (words : List (List ℕ))
    → after_words names (take 4 words) ≡ after_words names words
after_words-take names [] = refl
after_words-take names (a ∷ []) = refl
after_words-take names (a ∷ b ∷ []) = refl
after_words-take names (a ∷ b ∷ c ∷ []) = refl
after_words-take names (a ∷ b ∷ c ∷ d ∷ words) = refl

-- a line that doesn't begin as the verdict's
pub row-after : (names : NameLists) (text : List ℕ)
    → bytes_eq (take 8 text) (codes "verdict ") ≡ false
    → row_of names text ≡ after_words names (words_of text)
unfolding row_of
row-after names text other = rw other

-- ---- the first two lines

-- the first line, and what follows
pub first-cut : (names : NameLists) (pieces : List (List ℕ)) (text : List ℕ) (after : List ℕ)
    → pieces ≡ text ∷ pieces_of after
    → read_from_first names pieces ≡ (if bytes_eq text (codes "directive 1") then second_line names
    (pieces_of after) else Err (1, BadHeader))
first-cut names pieces text after is = let some = parts_of-some 10 after in rw (is, some.2)

pub second-cut : (names : NameLists) (pieces : List (List ℕ)) (text : List ℕ) (after : List ℕ)
    → pieces ≡ text ∷ pieces_of after
    → second_line names pieces ≡ low_read names (low_in text) (pieces_of after)
second-cut names pieces text after is = let some = parts_of-some 10 after in rw (is, some.2)

-- ---- the lines after them

-- the same behind other moments
abbrev pub with_moments : List Moment → Result Body Fault → Result Body Fault
with_moments front (Ok body) = Ok (front ++ body.0, body.1)
with_moments front (Err fault) = Err fault

pub with_moments-push : (front : List Moment) (moment : Moment) (rest : Result Body Fault)
    → with_moments (front ++ moment ∷ []) rest ≡ with_moments front (with_moment moment rest)
with_moments-push front moment (Ok body) =
    ap (λ moments. Ok (moments, body.1)) (append_assoc front (moment ∷ []) body.0)
with_moments-push front moment (Err fault) = refl

-- a line with its LF, and the text after it
abbrev pub line_then : ℕ → Result SoundDirectiveRow DirectiveFault → List ℕ → Result Body Fault
    → Result Body Fault
line_then k (Err kind) after others = Err (k, kind)
line_then k (Ok (sound.Event moment)) after others = with_moment moment others
line_then k (Ok (sound.Last verdict)) [] others = Ok ([], verdict)
line_then k (Ok (sound.Last verdict)) (b ∷ bs) others = Err (k + 1, MoreAfterVerdict)

body_at_verdict-more : (t : Bool) (k : ℕ) (verdict : Verdict) (b : ℕ) (bs piece : List ℕ)
    (pieces : List (List ℕ)) → cond t ([] ∷ pieces_of bs) (onto_first b (pieces_of bs))
    ≡ piece ∷ pieces → body_at_verdict k verdict piece pieces ≡ Err (k, MoreAfterVerdict)
body_at_verdict-more true k verdict b bs piece pieces is =
    let some = parts_of-some 10 bs in
    let first : [] ≡ piece = cc in
    let others : pieces_of bs ≡ pieces = cc in
    rw (← first, ← others, some.2)
body_at_verdict-more false k verdict b bs piece pieces is =
    let some = parts_of-some 10 bs in
    let shown : (b ∷ some.0) ∷ some.1 ≡ piece ∷ pieces = rw some.2 at is in
    let first : b ∷ some.0 ≡ piece = cc in
    rw (← first)

body_at_verdict-after : (k : ℕ) (verdict : Verdict) (after piece : List ℕ) (pieces : List (List ℕ))
    (others : Result Body Fault) → pieces_of after ≡ piece ∷ pieces
    → body_at_verdict (k + 1) verdict piece pieces
    ≡ line_then k (Ok (sound.Last verdict)) after others
body_at_verdict-after k verdict [] piece pieces others is =
    let first : [] ≡ piece = cc in
    let none : [] ≡ pieces = cc in
    rw (← first, ← none)
body_at_verdict-after k verdict (b ∷ bs) piece pieces others is =
    body_at_verdict-more (b == 10) (k + 1) verdict b bs piece pieces is

row-then : (k : ℕ) (read : Result SoundDirectiveRow DirectiveFault) (after piece : List ℕ)
    (pieces : List (List ℕ)) (others : Result Body Fault) → pieces_of after ≡ piece ∷ pieces
    → after_row k read piece pieces others ≡ line_then k read after others
row-then k (Err kind) after piece pieces others is = refl
row-then k (Ok (sound.Event moment)) after piece pieces others is = refl
row-then k (Ok (sound.Last verdict)) after piece pieces others is =
    body_at_verdict-after k verdict after piece pieces others is

-- a line that has its LF
pub body-line : (names : NameLists) (k : ℕ) (pieces : List (List ℕ)) (text after : List ℕ)
    (row : Option DirectiveRow) → pieces ≡ text ∷ pieces_of after → row ≡ row_of names text
    → body_of names k pieces ≡ line_then k (line_or_fault k row) after
    (body_of names (k + 1) (pieces_of after))
body-line names k pieces text after row is says =
    let some = parts_of-some 10 after in
    let whole : pieces ≡ text ∷ some.0 ∷ some.1 = is ∙ ap (λ ps. text ∷ ps) some.2 in
    ap (body_of names k) whole
    ∙ row-then k (line_or_fault k (row_of names text)) after some.0 some.1
    (body_of names (k + 1) (some.0 ∷ some.1)) some.2
    ∙ ap (λ ps. line_then k (line_or_fault k (row_of names text)) after (body_of names (k + 1) ps))
    (sym some.2)
    ∙ ap (λ r. line_then k (line_or_fault k r) after (body_of names (k + 1) (pieces_of after)))
    (sym says)

-- a line that lacks its LF
pub body-unended : (names : NameLists) (k : ℕ) (pieces : List (List ℕ)) (text : List ℕ)
    (row : Option DirectiveRow) → pieces ≡ text ∷ [] → row ≡ row_of names text
    → body_of names k pieces ≡ Err (k, unended_fault k row text)
body-unended names k pieces text row is says =
    ap (body_of names k) is ∙ ap (λ r. Err (k, unended_fault k r text)) (sym says)

-- ---- with the moments that were read before

-- a line that has its LF, after the moments before
pub body-read : (names : NameLists) (k : ℕ) (events : List Moment) (pieces : List (List ℕ))
    (text : List ℕ) (rest : Option (Bor (List ℕ))) (after : Bor (List ℕ))
    (row : Option DirectiveRow)
    (read : Result SoundDirectiveRow DirectiveFault) (start : Result Body Fault)
    → with_moments events (body_of names k pieces) ≡ start → pieces ≡ text ∷ pieces_after rest
    → rest ≡ Some after → row ≡ row_of names text → line_or_fault k row ≡ read
    → start ≡ with_moments events (line_then k read after.now
    (body_of names (k + 1) (pieces_of after.now)))
body-read names k events pieces text rest after row read start same is some says judge =
    sym same
    ∙ ap (with_moments events) (body-line names k pieces text after.now row
    (pieces-cut pieces text rest after is some) says
    ∙ ap (λ r. line_then k r after.now (body_of names (k + 1) (pieces_of after.now))) judge)

-- after the verdict nothing stands
pub last-empty : (events : List Moment) (k : ℕ) (verdict : Verdict) (after : List ℕ)
    (others : Result Body Fault) → length after ≡ 0
    → with_moments events (line_then k (Ok (sound.Last verdict)) after others)
    ≡ Ok (events, verdict)
last-empty events k verdict [] others none = ap (λ es. Ok (es, verdict)) (append-nil events)
last-empty events k verdict (b ∷ bs) others none = absurd (omega arith)

-- or something does
pub last-more : (events : List Moment) (k : ℕ) (verdict : Verdict) (after : List ℕ)
    (others : Result Body Fault) → (length after ≡ 0 → ⊥)
    → with_moments events (line_then k (Ok (sound.Last verdict)) after others)
    ≡ Err (k + 1, MoreAfterVerdict)
last-more events k verdict [] others some = absurd (some refl)
last-more events k verdict (b ∷ bs) others some = refl

late-event : (late : Bool) (k : ℕ) (thread : Option ℕ) (number : ℕ) (moment : Moment)
    → nat_lt 9 k ≡ late → line_or_fault k (Some (After thread number)) ≡ Ok (sound.Event moment)
    → k ≤ 9
late-event true k thread number moment e h =
    absurd (let bad : Err TooLong ≡ Ok (sound.Event moment) = rw e at h in cc)
late-event false k thread number moment e h = grind (arith, nat_tests)

-- a moment stands on one of the lines up to 9
pub line_or_fault-within : (k : ℕ) (row : Option DirectiveRow) (moment : Moment)
    → line_or_fault k row ≡ Ok (sound.Event moment) → k ≤ 9
line_or_fault-within k None moment h = absurd cc
line_or_fault-within k (Some (After thread number)) moment h =
    late-event (nat_lt 9 k) k thread number moment refl h
line_or_fault-within k (Some (End None)) moment h = absurd cc
line_or_fault-within k (Some (End (Some verdict))) moment h = absurd cc

pub fails-by : {Y : Type 0} (error : DirectiveError) (k : ℕ) (kind : DirectiveFault)
    (read : Result Y Fault) → error ≡ Bad k kind → read ≡ Err (k, kind) → Fails error read
fails-by error k kind read is h = rw is h

-- what follows a first line that is as it should be
pub first-found : (names : NameLists) (pieces : List (List ℕ)) (text : List ℕ)
    (rest : Option (Bor (List ℕ))) → pieces ≡ text ∷ pieces_after rest
    → bytes_eq text (codes "directive 1") ≡ true
    → MatchOption rest (read_from_first names pieces ≡ Err (1, BadHeader))
    (λ after. read_from_first names pieces ≡ second_line names (pieces_of after.now))
first-found names pieces text None is head = rw is
first-found names pieces text (Some after) is head =
    first-cut names pieces text after.now is ∙ rw head

-- the second line by its name
pub second-found : (names : NameLists) (pieces : List (List ℕ)) (text name : List ℕ)
    (rest : Option (Bor (List ℕ))) (after : Bor (List ℕ)) (place : Option ℕ)
    → pieces ≡ text ∷ pieces_after rest → rest ≡ Some after → low_in text ≡ Some name
    → place_of name names.threads ≡ place
    → second_line names pieces ≡ low_known names place (pieces_of after.now)
second-found names pieces text name rest after place is some says found =
    second-cut names pieces text after.now (pieces-cut pieces text rest after is some)
    ∙ rw (says, found)

-- ---- words that are no line's

pub low_words-other : (words : List (Bor (List ℕ))) → (length words ≡ 2 → ⊥)
    → None ≡ low_words (seen words)
low_words-other [] other = refl
low_words-other (a ∷ []) other = refl
low_words-other (a ∷ b ∷ []) other = absurd (other refl)
low_words-other (a ∷ b ∷ c ∷ words) other = refl

pub low_words-head : (words : List (Bor (List ℕ))) (d : Bor (List ℕ)) → length words ≡ 2
    → bytes_eq (get_or words 0 d).now (codes "low") ≡ false → None ≡ low_words (seen words)
low_words-head [] d long head = absurd (omega arith)
low_words-head (a ∷ []) d long head = absurd (omega arith)
low_words-head (a ∷ b ∷ []) d long head = rw head
low_words-head (a ∷ b ∷ c ∷ words) d long head = refl

pub after_words-other : (names : NameLists) (words : List (Bor (List ℕ))) → (length words ≡ 3 → ⊥)
    → None ≡ after_words names (seen words)
after_words-other names [] other = refl
after_words-other names (a ∷ []) other = refl
after_words-other names (a ∷ b ∷ []) other = refl
after_words-other names (a ∷ b ∷ c ∷ []) other = absurd (other refl)
after_words-other names (a ∷ b ∷ c ∷ d ∷ words) other = refl

pub after_words-head : (names : NameLists) (words : List (Bor (List ℕ))) (d : Bor (List ℕ))
    → length words ≡ 3 → bytes_eq (get_or words 0 d).now (codes "after") ≡ false
    → None ≡ after_words names (seen words)
after_words-head names [] x long head = absurd (omega arith)
after_words-head names (a ∷ []) x long head = absurd (omega arith)
after_words-head names (a ∷ b ∷ []) x long head = absurd (omega arith)
after_words-head names (a ∷ b ∷ c ∷ []) x long head = rw head
after_words-head names (a ∷ b ∷ c ∷ d ∷ words) x long head = refl
