-- The text of a directive is made of its lines, and is cut into them.
use Rattle.std.specs.Prelude.{◌==◌, codes, decimal, map}
use Rattle.std.specs.List.{All, join_with_byte}
use Rattle.std.proofs.Common.{◌≡◌, ℕ, ◌+◌, ◌*◌, ◌≤◌, true, List, [], ◌∷◌, ◌++◌, length, refl, sym}
use Rattle.std.proofs.Common.{◌∙◌, ap, arith, append_assoc, length-append}
use Rattle.std.proofs.lemmas.Fmt.{length-decimal-le}
use Rattle.std.proofs.lemmas.List.Elements.{All-head, All-tail}
use Rattle.std.proofs.lemmas.List.Splits.{slice_split_at, join_with_byte-slice_split}
use Rattle.pct_ask.specs.Words.{is_name}
use Rattle.pct_ask.specs.NameLists.{NameLists, AreNames}
use Rattle.pct_ask.specs.VerdictText.{NamedVerdict, thread_name, verdict_words, named_text}
use Rattle.pct_ask.specs.VerdictText.{named_verdict, verdict_text, IsVerdictForm, HasNames}
use Rattle.pct_ask.specs.declared.verdict.Verdict.{Verdict}
use Rattle.pct_ask.proofs.laws.LineTexts.{text_of_lines-append}
use Rattle.pct_ask.proofs.laws.Names.{thread-lawful}
use Rattle.pct_ask.proofs.laws.NameParts.{name-short}
use Rattle.pct_ask.proofs.laws.TextBytes.{HasNoEnd, no-end, no-end-append, no-end-by, high-by}
use Rattle.pct_ask.proofs.laws.TextBytes.{name-high, decimal-high, form-high}
use Rattle.pct_ask.proofs.laws.TextSizes.{verdict-size, length-join, length-joined}
use Rattle.rank_now.specs.declared.moment.Moment.{Moment}
use Rattle.directive.specs.DirectiveText.{DirectiveText, low_line, moment_line, verdict_line}
use Rattle.directive.specs.DirectiveText.{directive_lines, directive_text}
use Rattle.pct_ask.specs.Pieces.{pieces_of}
use Rattle.pct_ask.specs.Lines.{text_of_lines}
use Rattle.directive.specs.Directive.{IsMoment, IsSound}

-- the pieces of a text of lines
abbrev pub pieces_of_lines : List (List ℕ) → List (List ℕ)
pieces_of_lines [] = [] ∷ []
pieces_of_lines (line ∷ lines) = line ∷ pieces_of_lines lines

pub pieces_of_lines-append : (lines : List (List ℕ)) → pieces_of_lines lines ≡ lines ++ [] ∷ []
pieces_of_lines-append [] = refl
pieces_of_lines-append (line ∷ lines) = ap (λ ps. line ∷ ps) (pieces_of_lines-append lines)

abbrev pub HaveNoEnds : List (List ℕ) → Type 0
HaveNoEnds [] = Unit {0}
HaveNoEnds (line ∷ lines) = HasNoEnd line × HaveNoEnds lines

pub pieces-lines : (lines : List (List ℕ)) → HaveNoEnds lines
    → pieces_of (text_of_lines lines) ≡ pieces_of_lines lines
pieces-lines [] h = refl
pieces-lines (line ∷ lines) h =
    slice_split_at (λ b. b == 10) line 10 (text_of_lines lines) h.0 refl
    ∙ ap (λ ps. line ∷ ps) (pieces-lines lines h.1)

-- some piece is first
pub lines-some : (lines : List (List ℕ))
    → (piece : List ℕ) × (pieces : List (List ℕ)) × (pieces_of_lines lines ≡ piece ∷ pieces)
lines-some [] = ([], [], refl)
lines-some (line ∷ lines) = (line, pieces_of_lines lines, refl)

joined-lines : (lines : List (List ℕ))
    → join_with_byte 10 (pieces_of_lines lines) ≡ text_of_lines lines
joined-lines [] = refl
joined-lines (line ∷ lines) =
    let some = lines-some lines in
    let more : join_with_byte 10 (some.0 ∷ some.1) ≡ text_of_lines lines =
    ap (join_with_byte 10) (sym some.2) ∙ joined-lines lines in
    ap (λ ps. join_with_byte 10 (line ∷ ps)) some.2
    ∙ ap (λ (x : List ℕ). line ++ (10 ∷ x)) more

-- a text of these pieces is that text
pub text-pieces : (bytes : List ℕ) (lines : List (List ℕ)) → pieces_of bytes ≡ lines ++ [] ∷ []
    → bytes ≡ text_of_lines lines
text-pieces bytes lines h =
    sym (join_with_byte-slice_split 10 bytes)
    ∙ ap (join_with_byte 10) (h ∙ sym (pieces_of_lines-append lines)) ∙ joined-lines lines

-- ---- the lines of a directive have no LF within

low-no-end : (name : List ℕ) → is_name 1 name ≡ true → HasNoEnd (low_line name)
low-no-end name lawful =
    no-end (codes "low" ∷ name ∷ []) (high-by (codes "low") refl, (name-high name lawful, tt))

moment-no-end : (names : NameLists) (moment : Moment) → AreNames names → IsMoment names moment
    → HasNoEnd (moment_line names moment)
moment-no-end names moment valid is =
    no-end (codes "after" ∷ thread_name names moment.thread ∷ decimal moment.number ∷ []) (
      high-by (codes "after") refl,
      (
        name-high (thread_name names moment.thread)
            (thread-lawful names moment.thread valid is.thread),
        (decimal-high moment.number (omega (arith, is.number.1)), tt),
      ),
    )

verdict-no-end : (names : NameLists) (verdict : NamedVerdict) → IsVerdictForm names verdict
    → HasNoEnd (verdict_line (named_text verdict))
verdict-no-end names verdict form =
    no-end-append (codes "verdict ") (named_text verdict) (no-end-by (codes "verdict ") refl)
    (no-end (verdict_words verdict) (form-high names verdict form))

body-no-ends : (names : NameLists) (events : List Moment) (last : List ℕ) → AreNames names
    → All (IsMoment names) events → HasNoEnd last
    → HaveNoEnds (map (moment_line names) events ++ last ∷ [])
body-no-ends names [] last valid all here = (here, tt)
body-no-ends names (moment ∷ events) last valid all here = (
  moment-no-end names moment valid (All-head (IsMoment names) moment events all),
  body-no-ends names events last valid (All-tail (IsMoment names) moment events all) here,
)

-- so a directive's text is cut into its lines
pub pieces-directive : (names : NameLists) (told : DirectiveText) → AreNames names
    → IsSound names told → pieces_of (directive_text names told)
    ≡ pieces_of_lines (directive_lines names told)
pieces-directive names told valid sound =
    pieces-lines (directive_lines names told) (
      no-end-by (codes "directive 1") refl,
      (
        low-no-end (thread_name names told.low) (thread-lawful names told.low valid sound.low),
        body-no-ends names told.events (verdict_line (verdict_text names told.verdict)) valid
            sound.events (verdict-no-end names (named_verdict names told.verdict) sound.form),
      ),
    )

-- ---- how many bytes it has

abbrev lines_size : List (List ℕ) → ℕ
lines_size [] = 0
lines_size (line ∷ lines) = length line + 1 + lines_size lines

length-lines : (lines : List (List ℕ)) → length (text_of_lines lines) ≡ lines_size lines
length-lines [] = refl
length-lines (line ∷ lines) =
    omega (arith, length-lines lines, length-append line (10 ∷ text_of_lines lines))

low-size : (name : List ℕ) → is_name 1 name ≡ true → length (low_line name) ≤ 36
low-size name lawful = omega (arith, name-short name lawful, length-join (codes "low") (name ∷ []))

moment-size : (names : NameLists) (moment : Moment) → AreNames names → IsMoment names moment
    → length (moment_line names moment) ≤ 45
moment-size names moment valid is =
    let name = thread_name names moment.thread in
    let short = name-short name (thread-lawful names moment.thread valid is.thread) in
    let digits = length-decimal-le 6 moment.number (omega arith)
    (omega (arith, is.number.0, is.number.1)) (omega (arith, is.number.0, is.number.1)) in
    omega (arith, short, digits, length-join (codes "after") (name ∷ decimal moment.number ∷ []))

verdict-line-size : (names : NameLists) (verdict : Verdict) → AreNames names
    → HasNames names verdict → IsVerdictForm names (named_verdict names verdict)
    → length (verdict_line (verdict_text names verdict)) ≤ 2446
verdict-line-size names verdict valid has form =
    omega (
      arith,
      verdict-size names verdict valid has form,
      length-joined (verdict_words (named_verdict names verdict)),
      length-append (codes "verdict ") (verdict_text names verdict),
    )

body-size : (names : NameLists) (events : List Moment) (last : List ℕ) → AreNames names
    → All (IsMoment names) events → lines_size (map (moment_line names) events ++ last ∷ []) ≤ 46
    * length events + length last + 1
body-size names [] last valid all = omega arith
body-size names (moment ∷ events) last valid all =
    let here = moment-size names moment valid (All-head (IsMoment names) moment events all) in
    let others = body-size names events last valid (All-tail (IsMoment names) moment events all) in
    omega arith

sum-small : (a b c d m : ℕ) → a ≤ 36 → b ≤ 46 * m + c + 1 → c ≤ 2446 → m ≤ 7
    → d ≡ 11 + 1 + (a + 1 + b) → d ≤ 65536
sum-small a b c d m ha hb hc hm hd = omega arith

pub directive-size : (names : NameLists) (told : DirectiveText) → AreNames names
    → IsSound names told → length (directive_text names told) ≤ 65536
directive-size names told valid sound =
    let last = verdict_line (verdict_text names told.verdict) in
    let low = low_line (thread_name names told.low) in
    let body = map (moment_line names) told.events ++ last ∷ [] in
    sum-small (length low) (lines_size body) (length last) (length (directive_text names told))
    (length told.events)
    (low-size (thread_name names told.low) (thread-lawful names told.low valid sound.low))
    (body-size names told.events last valid sound.events)
    (verdict-line-size names told.verdict valid sound.threads sound.form)
    sound.few (length-lines (directive_lines names told))

-- ---- as it is written

pub whole-text : (names : NameLists) (told : DirectiveText) (events : List Moment)
    (none first low moments : List ℕ) (all : List ℕ)
    → first ≡ none ++ (codes "directive 1" ++ 10 ∷ []) → none ≡ []
    → low ≡ first ++ text_of_lines (low_line (thread_name names told.low) ∷ [])
    → moments ≡ low ++ text_of_lines (map (moment_line names) events) → events ≡ told.events
    → all ≡ moments ++ text_of_lines (verdict_line (verdict_text names told.verdict) ∷ [])
    → all ≡ directive_text names told
whole-text names told events none first low moments all a b c d e f =
    f
    ∙ ap (λ m. m ++ text_of_lines (verdict_line (verdict_text names told.verdict) ∷ []))
    (d ∙ ap (λ es. low ++ text_of_lines (map (moment_line names) es)) e
    ∙ ap (λ l. l ++ text_of_lines (map (moment_line names) told.events))
    (c ∙ ap (λ p. p ++ text_of_lines (low_line (thread_name names told.low) ∷ []))
    (a ∙ ap (λ n. n ++ (codes "directive 1" ++ 10 ∷ [])) b)))
    ∙ regrouped (codes "directive 1") (low_line (thread_name names told.low))
    (text_of_lines (map (moment_line names) told.events))
    (text_of_lines (verdict_line (verdict_text names told.verdict) ∷ []))
    ∙ ap (λ t. codes "directive 1" ++ 10 ∷ (low_line (thread_name names told.low) ++ 10 ∷ t))
    (sym (text_of_lines-append (map (moment_line names) told.events)
    (verdict_line (verdict_text names told.verdict) ∷ [])))
  where
    regrouped : (h l m v : List ℕ)
        → (((h ++ 10 ∷ []) ++ (l ++ 10 ∷ [])) ++ m) ++ v ≡ h ++ 10 ∷ (l ++ 10 ∷ (m ++ v))
    regrouped h l m v =
        append_assoc ((h ++ 10 ∷ []) ++ (l ++ 10 ∷ [])) m v
        ∙ append_assoc (h ++ 10 ∷ []) (l ++ 10 ∷ []) (m ++ v)
        ∙ append_assoc h (10 ∷ []) ((l ++ 10 ∷ []) ++ (m ++ v))
        ∙ ap (λ t. h ++ 10 ∷ t) (append_assoc l (10 ∷ []) (m ++ v))
