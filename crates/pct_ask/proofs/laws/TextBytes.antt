-- The bytes of names, numbers and verdicts: none is a space or an LF.
use Rattle.std.specs.Prelude.{codes, decimal, ◌==◌, ◌&&◌, ◌||◌, not, nat_le}
use Rattle.std.specs.List.{All, list_all, flat_map, join_with_byte}
use Rattle.std.specs.Str.Parse.{AllDigits}
use Rattle.std.proofs.Common.{◌≡◌, ℕ, ◌<◌, ◌≤◌, ◌^◌, true, false, List, [], ◌∷◌, ◌++◌, get_or, refl}
use Rattle.std.proofs.Common.{inl, inr, arith}
use Rattle.std.proofs.lemmas.Bool.{and_parts, or_cases, not-true}
use Rattle.std.proofs.lemmas.Bool.Decides.{nat_tests}
use Rattle.std.proofs.lemmas.Fmt.{decimal_is_IsNumeral_wide}
use Rattle.std.proofs.lemmas.List.Elements.{All-nil, All-cons, All-head, All-tail}
use Rattle.std.proofs.lemmas.Str.Parse.{digit_from_value}
use Rattle.pct_ask.specs.Characters.{is_letter, is_digit, is_word_byte}
use Rattle.pct_ask.specs.Words.{is_name}
use Rattle.pct_ask.specs.NameLists.{NameLists}
use Rattle.pct_ask.specs.VerdictText.{NamedVerdict, NamedPassed, NamedFailed, NamedStuck}
use Rattle.pct_ask.specs.VerdictText.{NamedMisuse, NamedFault, NamedCut, misuse_word, fault_word}
use Rattle.pct_ask.specs.VerdictText.{place_words, verdict_words, IsPlace, IsVerdictForm}
use Rattle.pct_ask.specs.VerdictWords.{words_of}
use Rattle.pct_ask.specs.declared.ask.FaultKind.{FaultKind}
use Rattle.pct_ask.specs.declared.ask.FaultKind.TheVariants.{Overflow, ZeroDivisor, Spin}
use Rattle.pct_ask.specs.declared.verdict.MisuseKind.{MisuseKind}
use Rattle.pct_ask.specs.declared.verdict.MisuseKind.TheVariants.{NotOwner, SemFull, AlreadyStarted}
use Rattle.pct_ask.specs.declared.verdict.MisuseKind.TheVariants.{TooManyReads}
use Rattle.pct_ask.proofs.laws.NameParts.{name-parts}
use Rattle.pct_ask.proofs.laws.SplitWords.{IsSolid, AreSolid, words_of-join}

-- above the space
abbrev pub IsHigh : List ℕ → Type 0
IsHigh word = All (λ b. 33 ≤ b) word

abbrev pub AreHigh : List (List ℕ) → Type 0
AreHigh [] = Unit {0}
AreHigh (word ∷ words) = IsHigh word × AreHigh words

high-nil : IsHigh []
high-nil = All-nil (λ (b : ℕ). 33 ≤ b)

pub high-cons : (b : ℕ) (bs : List ℕ) → 33 ≤ b → IsHigh bs → IsHigh (b ∷ bs)
high-cons b bs h hs = All-cons (λ (x : ℕ). 33 ≤ x) b bs h hs

pub high-append : (a b : List (List ℕ)) → AreHigh a → AreHigh b → AreHigh (a ++ b)
high-append [] b ha hb = hb
high-append (w ∷ a) b ha hb = (ha.0, high-append a b ha.1 hb)

-- a word of known bytes
pub high-by : (word : List ℕ) → list_all (λ b. nat_le 33 b) word ≡ true → IsHigh word
high-by [] h = high-nil
high-by (b ∷ bs) h =
    let parts = and_parts (nat_le 33 b) (list_all (λ (x : ℕ). nat_le 33 x) bs) h in
    let here = parts.0 in
    high-cons b bs (grind (arith, nat_tests)) (high-by bs parts.1)

range-high : (low high b : ℕ) → 33 ≤ low → (nat_le low b && nat_le b high) ≡ true → 33 ≤ b
range-high low high b above h =
    let parts = and_parts (nat_le low b) (nat_le b high) h in
    let here = parts.0 in
    grind (arith, nat_tests)

letter-high : (b : ℕ) → is_letter b ≡ true → 33 ≤ b
letter-high b h =
    elim (or_cases (nat_le 97 b && nat_le b 122 || nat_le 65 b && nat_le b 90) (b == 95) h) [
      | inl p ↦ elim (or_cases (nat_le 97 b && nat_le b 122) (nat_le 65 b && nat_le b 90) p) [
        | inl q ↦ range-high 97 122 b (omega arith) q
        | inr q ↦ range-high 65 90 b (omega arith) q
      ]
      | inr p ↦ grind (arith, nat_tests)
    ]

word_byte-high : (b : ℕ) → is_word_byte b ≡ true → 33 ≤ b
word_byte-high b h =
    elim (or_cases (is_letter b) (is_digit b) h) [
      | inl p ↦ letter-high b p
      | inr p ↦ range-high 48 57 b (omega arith) p
    ]

word_bytes-high : (word : List ℕ) → list_all is_word_byte word ≡ true → IsHigh word
word_bytes-high [] h = high-nil
word_bytes-high (b ∷ bs) h =
    let parts = and_parts (is_word_byte b) (list_all is_word_byte bs) h in
    high-cons b bs (word_byte-high b parts.0) (word_bytes-high bs parts.1)

pub name-high : (name : List ℕ) → is_name 1 name ≡ true → IsHigh name
name-high [] h = high-nil
name-high (b ∷ bs) h =
    let parts = name-parts b bs h in
    high-cons b bs (letter-high b parts.letter) (word_bytes-high bs parts.others)

digits-high : (ds : List ℕ) → AllDigits 10 ds → IsHigh ds
digits-high [] h = high-nil
digits-high (d ∷ ds) h = let range = digit_from_value d h.0 in
    high-cons d ds (omega arith) (digits-high ds h.1)

pub decimal-high : (n : ℕ) → n < 10 ^ 64 → IsHigh (decimal n)
decimal-high n h = digits-high (decimal n) (decimal_is_IsNumeral_wide n h).0.1

-- ---- the words of a verdict

misuse-high : (kind : MisuseKind) → IsHigh (misuse_word kind)
misuse-high NotOwner = high-by (codes "notowner") refl
misuse-high SemFull = high-by (codes "semfull") refl
misuse-high AlreadyStarted = high-by (codes "alreadystarted") refl
misuse-high TooManyReads = high-by (codes "toomanyreads") refl

pub fault-high : (kind : FaultKind) → IsHigh (fault_word kind)
fault-high Overflow = high-by (codes "overflow") refl
fault-high ZeroDivisor = high-by (codes "zerodivisor") refl
fault-high Spin = high-by (codes "spin") refl

place-high : (name : List ℕ) (line : ℕ) → IsPlace (name, line) → AreHigh (name ∷ decimal line ∷ [])
place-high name line place =
    (name-high name place.0, (decimal-high line (omega (arith, place.1.0, place.1.1)), tt))

places-high : (places : List (List ℕ × ℕ)) → All IsPlace places
    → AreHigh (flat_map place_words places)
places-high [] all = tt
places-high (p ∷ ps) all =
    let here = place-high p.0 p.1 (All-head IsPlace p ps all) in
    (here.0, (here.1.0, places-high ps (All-tail IsPlace p ps all)))

pub form-high : (names : NameLists) (verdict : NamedVerdict) → IsVerdictForm names verdict
    → AreHigh (verdict_words verdict)
form-high names NamedPassed form = (high-by (codes "passed") refl, tt)
form-high names (NamedFailed name line) form =
    (high-by (codes "failed") refl, place-high name line form)
form-high names (NamedStuck places) form = (high-by (codes "stuck") refl, places-high places form.1)
form-high names (NamedMisuse name line kind) form =
    let p = place-high name line form in
    (high-by (codes "misuse") refl, (p.0, (p.1.0, (misuse-high kind, tt))))
form-high names (NamedFault name line kind) form =
    let p = place-high name line form in
    (high-by (codes "fault") refl, (p.0, (p.1.0, (fault-high kind, tt))))
form-high names NamedCut form = (high-by (codes "cut") refl, tt)

-- ---- so they are cut where they should be

high-solid : (word : List ℕ) → IsHigh word → IsSolid word
high-solid word h = λ k d within. let above : 33 ≤ get_or word k d = h k d within in
    grind (arith, nat_tests)

are-solid : (words : List (List ℕ)) → AreHigh words → AreSolid words
are-solid [] h = tt
are-solid (w ∷ ws) h = (high-solid w h.0, are-solid ws h.1)

-- words above the space, with one space between them, are cut into the same words
pub words_of-high : (word : List ℕ) (words : List (List ℕ)) → AreHigh (word ∷ words)
    → words_of (join_with_byte 32 (word ∷ words)) ≡ word ∷ words
words_of-high word words h = words_of-join word words (high-solid word h.0) (are-solid words h.1)

abbrev pub HasNoEnd : List ℕ → Type 0
HasNoEnd text = All (λ b. (b == 10) ≡ false) text

no-end-word : (word : List ℕ) → IsHigh word → HasNoEnd word
no-end-word word h = λ k d within. let above : 33 ≤ get_or word k d = h k d within in
    grind (arith, nat_tests)

no-end-cons : (b : ℕ) (bs : List ℕ) → (b == 10) ≡ false → HasNoEnd bs → HasNoEnd (b ∷ bs)
no-end-cons b bs h hs = All-cons (λ (x : ℕ). (x == 10) ≡ false) b bs h hs

pub no-end-append : (a b : List ℕ) → HasNoEnd a → HasNoEnd b → HasNoEnd (a ++ b)
no-end-append [] b ha hb = hb
no-end-append (x ∷ a) b ha hb =
    let P = λ (y : ℕ). (y == 10) ≡ false in
    no-end-cons x (a ++ b) (All-head P x a ha) (no-end-append a b (All-tail P x a ha) hb)

-- nor is an LF among them
pub no-end : (words : List (List ℕ)) → AreHigh words → HasNoEnd (join_with_byte 32 words)
no-end [] h = All-nil (λ (b : ℕ). (b == 10) ≡ false)
no-end (w ∷ []) h = no-end-word w h.0
no-end (w ∷ v ∷ ws) h =
    no-end-append w (32 ∷ join_with_byte 32 (v ∷ ws)) (no-end-word w h.0)
    (no-end-cons 32 (join_with_byte 32 (v ∷ ws)) refl (no-end (v ∷ ws) h.1))

-- a text of known bytes
pub no-end-by : (word : List ℕ) → list_all (λ b. not (b == 10)) word ≡ true → HasNoEnd word
no-end-by [] h = All-nil (λ (b : ℕ). (b == 10) ≡ false)
no-end-by (b ∷ bs) h =
    let parts = and_parts (not (b == 10)) (list_all (λ x. not (x == 10)) bs) h in
    no-end-cons b bs (not-true (b == 10) parts.0) (no-end-by bs parts.1)
