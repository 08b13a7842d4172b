-- The bytes of a verdict's text are plain: ASCII, and none that JSON escapes.
use Rattle.std.specs.Prelude.{codes, decimal, ◌==◌, ◌&&◌, ◌||◌, not, nat_le}
use Rattle.std.specs.List.{All, list_all, join_with_byte, flat_map}
use Rattle.std.specs.Str.{IsAscii}
use Rattle.std.specs.Str.Parse.{AllDigits}
use Rattle.std.proofs.Common.{◌≡◌, ◌≢◌, ⊎_elim, ℕ, ◌<◌, ◌≤◌, Bool, true, List, [], ◌∷◌, ◌++◌}
use Rattle.std.proofs.Common.{length, map, refl, ap, subst, inl, inr, arith, length-append}
use Rattle.std.proofs.lemmas.Bool.{cases_lt, ne_eqb, le-ltb, and_parts, or_cases}
use Rattle.std.proofs.lemmas.Bool.Decides.{nat_tests}
use Rattle.std.proofs.lemmas.Fmt.{decimal_is_IsNumeral}
use Rattle.std.proofs.lemmas.List.{get_or_append_left, get_or_past}
use Rattle.std.proofs.lemmas.List.Elements.{All-nil, All-cons, All-head, All-tail, All-append}
use Rattle.std.proofs.lemmas.List.Elements.{All-get_or}
use Rattle.std.proofs.lemmas.Str.Parse.{digit_from_value}
use Rattle.json.specs.Print.{escape_byte, escape, quoted}
use Rattle.pct_ask.specs.Characters.{is_letter, is_digit, is_word_byte}
use Rattle.pct_ask.specs.Words.{is_name}
use Rattle.pct_ask.specs.NameLists.{NameLists, AreNames}
use Rattle.pct_ask.specs.VerdictText.{verdict_text, verdict_words, named_verdict, thread_name}
use Rattle.pct_ask.specs.VerdictText.{place_words, misuse_word, fault_word, IsLine}
use Rattle.pct_ask.specs.declared.ask.FaultKind.{FaultKind}
use Rattle.pct_ask.specs.declared.ask.FaultKind.TheVariants.{Overflow, ZeroDivisor, Spin}
use Rattle.pct_ask.specs.declared.verdict.MisuseKind.{MisuseKind}
use Rattle.pct_ask.specs.declared.verdict.MisuseKind.TheVariants.{NotOwner, SemFull, AlreadyStarted}
use Rattle.pct_ask.specs.declared.verdict.MisuseKind.TheVariants.{TooManyReads}
use Rattle.pct_ask.specs.declared.verdict.Verdict.{Verdict}
use Rattle.pct_ask.specs.declared.verdict.Verdict.TheVariants.{Passed, Failed, Stuck, Misuse, Fault}
use Rattle.pct_ask.specs.declared.verdict.Verdict.TheVariants.{Cut}
use Rattle.pct_ask.proofs.laws.NameParts.{name-parts}
use Rattle.report_text.specs.Report.{IsWritable}
use Rattle.report_text.specs.Json.{string_text}

pub record IsPlain (b : ℕ) : Type 0 where
  pub low : 32 ≤ b
  pub high : b < 128
  pub no_quote : b ≢ 34
  pub no_backslash : b ≢ 92

abbrev pub is_plain : ℕ → Bool
is_plain b = nat_le 32 b && (nat_le b 127 && (not (b == 34) && not (b == 92)))

abbrev pub ArePlain : List (List ℕ) → Type 0
ArePlain [] = Unit {0}
ArePlain (word ∷ words) = All IsPlain word × ArePlain words

plain-test : (b : ℕ) → is_plain b ≡ true → IsPlain b
plain-test b h =
    let l = (and_parts (nat_le 32 b) (nat_le b 127 && (not (b == 34) && not (b == 92))) h).0 in
    let r = (and_parts (nat_le 32 b) (nat_le b 127 && (not (b == 34) && not (b == 92))) h).1 in
    let u = (and_parts (nat_le b 127) (not (b == 34) && not (b == 92)) r).0 in
    let n = (and_parts (nat_le b 127) (not (b == 34) && not (b == 92)) r).1 in
    let q = (and_parts (not (b == 34)) (not (b == 92)) n).0 in
    let s = (and_parts (not (b == 34)) (not (b == 92)) n).1 in
    record {
      low = grind (arith, nat_tests);
      high = grind (arith, nat_tests);
      no_quote = λ e. grind (arith, nat_tests);
      no_backslash = λ e. grind (arith, nat_tests);
    }

-- a word of known bytes
pub plain-by : (word : List ℕ) → list_all is_plain word ≡ true → All IsPlain word
plain-by [] h = All-nil IsPlain
plain-by (b ∷ bs) h =
    All-cons IsPlain b bs (plain-test b (and_parts (is_plain b) (list_all is_plain bs) h).0)
    (plain-by bs (and_parts (is_plain b) (list_all is_plain bs) h).1)

range : (low high b : ℕ) → (nat_le low b && nat_le b high) ≡ true → (low ≤ b) × (b ≤ high)
range low high b h =
    let l = (and_parts (nat_le low b) (nat_le b high) h).0 in
    let r = (and_parts (nat_le low b) (nat_le b high) h).1 in
    (grind (arith, nat_tests), grind (arith, nat_tests))

letter-plain : (b : ℕ) → is_letter b ≡ true → IsPlain b
letter-plain b h =
    elim (or_cases (nat_le 97 b && nat_le b 122 || nat_le 65 b && nat_le b 90) (b == 95) h) [
      | inl p ↦ elim (or_cases (nat_le 97 b && nat_le b 122) (nat_le 65 b && nat_le b 90) p) [
        | inl q ↦ let r = range 97 122 b q in
            record {
              low = omega arith;
              high = omega arith;
              no_quote = λ e. omega arith;
              no_backslash = λ e. omega arith;
            }
        | inr q ↦ let r = range 65 90 b q in
            record {
              low = omega arith;
              high = omega arith;
              no_quote = λ e. omega arith;
              no_backslash = λ e. omega arith;
            }
      ]
      | inr p ↦ let r : b ≡ 95 = grind (arith, nat_tests) in
          record {
            low = omega arith;
            high = omega arith;
            no_quote = λ e. omega arith;
            no_backslash = λ e. omega arith;
          }
    ]

word_byte-plain : (b : ℕ) → is_word_byte b ≡ true → IsPlain b
word_byte-plain b h =
    elim (or_cases (is_letter b) (is_digit b) h) [
      | inl p ↦ letter-plain b p
      | inr p ↦ let r = range 48 57 b p in
          record {
            low = omega arith;
            high = omega arith;
            no_quote = λ e. omega arith;
            no_backslash = λ e. omega arith;
          }
    ]

word_bytes-plain : (word : List ℕ) → list_all is_word_byte word ≡ true → All IsPlain word
word_bytes-plain [] h = All-nil IsPlain
word_bytes-plain (b ∷ bs) h =
    All-cons IsPlain b bs (word_byte-plain b
    (and_parts (is_word_byte b) (list_all is_word_byte bs) h).0)
    (word_bytes-plain bs (and_parts (is_word_byte b) (list_all is_word_byte bs) h).1)

name-plain : (name : List ℕ) → is_name 1 name ≡ true → All IsPlain name
name-plain [] h = All-nil IsPlain
name-plain (b ∷ bs) h =
    let parts = name-parts b bs h in
    All-cons IsPlain b bs (letter-plain b parts.letter) (word_bytes-plain bs parts.others)

digits-plain : (ds : List ℕ) → AllDigits 10 ds → All IsPlain ds
digits-plain [] h = All-nil IsPlain
digits-plain (d ∷ ds) h =
    let r = digit_from_value d h.0 in
    All-cons IsPlain d ds (record {
      low = omega arith;
      high = omega arith;
      no_quote = λ e. omega arith;
      no_backslash = λ e. omega arith;
    }) (digits-plain ds h.1)

line-plain : (line : ℕ) → IsLine line → All IsPlain (decimal line)
line-plain line is = digits-plain (decimal line) (decimal_is_IsNumeral line (omega arith)).0.1

pub thread-plain : (names : NameLists) (thread : ℕ) → AreNames names → thread < length names.threads
    → All IsPlain (thread_name names thread)
thread-plain names thread sound known =
    let rest = names.vars ++ (names.mutexes
    ++ (names.conds ++ (names.sems ++ (names.barriers ++ names.rwlocks)))) in
    let here = get_or_append_left names.threads rest [] thread known in
    name-plain (thread_name names thread)
    (subst (λ name. is_name 1 name ≡ true) here
    (sound.lawful thread [] (omega (arith, length-append names.threads rest))))

misuse-plain : (kind : MisuseKind) → All IsPlain (misuse_word kind)
misuse-plain NotOwner = plain-by (codes "notowner") refl
misuse-plain SemFull = plain-by (codes "semfull") refl
misuse-plain AlreadyStarted = plain-by (codes "alreadystarted") refl
misuse-plain TooManyReads = plain-by (codes "toomanyreads") refl

fault-plain : (kind : FaultKind) → All IsPlain (fault_word kind)
fault-plain Overflow = plain-by (codes "overflow") refl
fault-plain ZeroDivisor = plain-by (codes "zerodivisor") refl
fault-plain Spin = plain-by (codes "spin") refl

module _ (names : NameLists) (sound : AreNames names) where
  places-plain : (places : List (ℕ × ℕ))
      → All (λ thread. thread < length names.threads) (map (λ place. place.0) places)
      → All (λ place. IsLine place.1) places
      → ArePlain (flat_map place_words (map (λ place. (thread_name names place.0, place.1)) places))
  places-plain [] known lines = tt
  places-plain (place ∷ places) known lines = (
    thread-plain names place.0 sound (All-head (λ thread. thread < length names.threads) place.0
        (map (λ (p : ℕ × ℕ). p.0) places) known),
    (
      line-plain place.1 (All-head (λ (p : ℕ × ℕ). IsLine p.1) place places lines),
      places-plain places (All-tail (λ thread. thread < length names.threads) place.0
          (map (λ (p : ℕ × ℕ). p.0) places) known)
          (All-tail (λ (p : ℕ × ℕ). IsLine p.1) place places lines),
    ),
  )

  first-known : (thread : ℕ) → All (λ thread. thread < length names.threads) (thread ∷ [])
      → All IsPlain (thread_name names thread)
  first-known thread known =
      thread-plain names thread sound (All-head (λ thread. thread < length names.threads) thread []
      known)

  words-plain : (verdict : Verdict) → IsWritable names verdict
      → ArePlain (verdict_words (named_verdict names verdict))
  words-plain Passed is = (plain-by (codes "passed") refl, tt)
  words-plain (Failed thread line) is = (
    plain-by (codes "failed") refl,
    (first-known thread is.named, (line-plain line is.whole, tt)),
  )
  words-plain (Stuck places) is =
      (plain-by (codes "stuck") refl, places-plain places is.named is.whole.1)
  words-plain (Misuse thread line kind) is = (
    plain-by (codes "misuse") refl,
    (first-known thread is.named, (line-plain line is.whole, (misuse-plain kind, tt))),
  )
  words-plain (Fault thread line kind) is = (
    plain-by (codes "fault") refl,
    (
      first-known thread is.named,
      (line-plain line is.whole, (fault-plain kind, tt)),
    ),
  )
  words-plain Cut is = (plain-by (codes "cut") refl, tt)

join-plain : (words : List (List ℕ)) → ArePlain words → All IsPlain (join_with_byte 32 words)
join-plain [] h = All-nil IsPlain
join-plain (word ∷ []) h = h.0
join-plain (word ∷ next ∷ words) h =
    All-append IsPlain word (32 ∷ join_with_byte 32 (next ∷ words)) h.0
    (All-cons IsPlain 32 (join_with_byte 32 (next ∷ words)) (plain-test 32 refl)
    (join-plain (next ∷ words) h.1))

pub verdict-plain : (names : NameLists) (verdict : Verdict) → AreNames names
    → IsWritable names verdict → All IsPlain (verdict_text names verdict)
verdict-plain names verdict sound is =
    join-plain (verdict_words (named_verdict names verdict)) (words-plain names sound verdict is)

pub plain-ascii : (text : List ℕ) → All IsPlain text → IsAscii text
plain-ascii text plain i =
    ⊎_elim (λ (inside : i < length text). (All-get_or IsPlain text i 0 inside plain).high)
    (λ (past : length text ≤ i). let none = get_or_past text i 0 past in omega (arith, none))
    (cases_lt i (length text))

plain-byte : (b : ℕ) → IsPlain b → escape_byte b ≡ b ∷ []
unfolding escape_byte
plain-byte b is =
    let quote = ne_eqb b 34 is.no_quote in
    let backslash = ne_eqb b 92 is.no_backslash in
    let eight = ne_eqb b 8 (λ e. omega arith) in
    let twelve = ne_eqb b 12 (λ e. omega arith) in
    let ten = ne_eqb b 10 (λ e. omega arith) in
    let thirteen = ne_eqb b 13 (λ e. omega arith) in
    let nine = ne_eqb b 9 (λ e. omega arith) in
    let high = le-ltb b 32 is.low in
    rw (quote, backslash, eight, twelve, ten, thirteen, nine, high)

escape-plain : (text : List ℕ) → All IsPlain text → escape text ≡ text
escape-plain [] plain = refl
escape-plain (b ∷ bs) plain =
    let here = plain-byte b (All-head IsPlain b bs plain) in
    rw here (ap (λ (rest : List ℕ). b ∷ rest) (escape-plain bs (All-tail IsPlain b bs plain)))

-- a plain text stands in JSON as it is
pub quoted-plain : (text : List ℕ) → All IsPlain text → quoted text ≡ string_text text
quoted-plain text plain = ap string_text (escape-plain text plain)
