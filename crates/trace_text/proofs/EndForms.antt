-- A verdict is read of the line of its form, and of nothing else.
use Rattle.std.specs.Prelude.{codes, decimal, ◌==◌, ◌&&◌, ◌-◌, if◌then◌else◌}
use Rattle.std.specs.List.{All, flat_map, join_with_byte}
use Rattle.std.specs.Str.{bytes_eq}
use Rattle.std.specs.Str.Parse.{AllDigits}
use Rattle.std.proofs.Common.{◌≡◌, ◌⊎◌, ℕ, ◌<◌, ◌≤◌, ◌^◌, Bool, true, false, List, [], ◌∷◌, ◌++◌}
use Rattle.std.proofs.Common.{length, take, drop, Option, Some, None, refl, sym, ap, ◌∙◌, inl, inr}
use Rattle.std.proofs.Common.{arith, append_assoc}
use Rattle.std.proofs.lemmas.Bool.Decides.{nat_tests, Decides-eqb}
use Rattle.std.proofs.lemmas.Fmt.{decimal_is_IsNumeral_wide}
use Rattle.std.proofs.lemmas.List.{take-append-drop}
use Rattle.std.proofs.lemmas.List.Elements.{All-head, All-tail}
use Rattle.std.proofs.lemmas.Slice.Eq.{bytes_eq-Decides, ends_is}
use Rattle.std.proofs.lemmas.Str.Parse.{digit_from_value}
use Rattle.pct_ask.specs.NameLists.{NameLists, AreNames}
use Rattle.pct_ask.specs.VerdictText as verdicts
use Rattle.pct_ask.specs.VerdictText.{NamedVerdict, NamedPassed, NamedFailed, NamedStuck}
use Rattle.pct_ask.specs.VerdictText.{NamedMisuse, NamedFault, NamedCut, misuse_word, fault_word}
use Rattle.pct_ask.specs.VerdictText.{place_words, verdict_words, named_text, named_verdict}
use Rattle.pct_ask.specs.VerdictText.{IsPlace}
use Rattle.pct_ask.specs.VerdictRead.{ReadsAs}
use Rattle.pct_ask.specs.VerdictWords.{words_of, verdict_of_words}
use Rattle.pct_ask.specs.declared.ask.FaultKind.{FaultKind}
use Rattle.pct_ask.specs.declared.ask.FaultKind.TheVariants.{Overflow, ZeroDivisor, Spin}
use Rattle.pct_ask.specs.declared.verdict.MisuseKind.{MisuseKind}
use Rattle.pct_ask.specs.declared.verdict.MisuseKind.TheVariants.{NotOwner, SemFull, AlreadyStarted}
use Rattle.pct_ask.specs.declared.verdict.MisuseKind.TheVariants.{TooManyReads}
use Rattle.pct_ask.specs.declared.verdict.Verdict.{Verdict}
use Rattle.pct_ask.specs.declared.verdict.Verdict.TheVariants.{Passed, Failed, Stuck, Misuse, Fault}
use Rattle.pct_ask.specs.declared.verdict.Verdict.TheVariants.{Cut}
use Rattle.pct_ask.specs.declared.verdict_text.VerdictRead.{VerdictRead}
use Rattle.pct_ask.specs.declared.verdict_text.VerdictRead.TheVariants.{Is, NoForm, UnknownName}
use Rattle.pct_ask.proofs.laws.VerdictsRead.{ReadsAs-words, ReadsAs-only}
use Rattle.pct_ask.proofs.laws.SplitWords.{join-words_of}
use Rattle.pct_ask.proofs.laws.TextBytes.{words_of-high, high-by, form-high}
use Rattle.trace_text.specs.Lawful.{is_of_second}
use Rattle.trace_text.specs.reader.StepLines.{step_of_words, tells_reads, end_of, row_of}
use Rattle.trace_text.specs.Forms.{verdict_since, words_of_form, IsLineOf, HasUnknown}
use Rattle.trace_text.specs.Forms as forms
use Rattle.trace_text.specs.declared.row.TraceRow.{TraceRow}
use Rattle.trace_text.specs.declared.row.TraceRow.TheVariants.{End}
use Rattle.trace_text.proofs.Rows.{verdict-joined, words-no-end}

-- ---- the last byte of a verdict's text

-- the last byte of a list, and this one where it is empty
last_from : ℕ → List ℕ → ℕ
last_from d [] = d
last_from d (b ∷ bs) = last_from b bs

last-append : (d : ℕ) (xs ys : List ℕ) → last_from d (xs ++ ys) ≡ last_from (last_from d xs) ys
unfolding last_from
last-append d [] ys = refl
last-append d (x ∷ xs) ys = last-append x xs ys

digit-last : (d : ℕ) (ds : List ℕ) → d ≤ 57 → AllDigits 10 ds → last_from d ds ≤ 57
unfolding last_from
digit-last d [] low digits = low
digit-last d (e ∷ ds) low digits = let range = digit_from_value e digits.0 in
    digit-last e ds (omega arith) digits.1

digits-last : (d : ℕ) (ds : List ℕ) → 0 < length ds → AllDigits 10 ds → last_from d ds ≤ 57
unfolding last_from
digits-last d [] some digits = absurd (omega arith)
digits-last d (e ∷ ds) some digits = let range = digit_from_value e digits.0 in
    digit-last e ds (omega arith) digits.1

decimal-last : (d n : ℕ) → n < 10 ^ 64 → last_from d (decimal n) ≤ 57
decimal-last d n small = let numeral = (decimal_is_IsNumeral_wide n small).0 in
    digits-last d (decimal n) numeral.0 numeral.1

-- a text that ends so ends with an s
tells-last : (text : List ℕ) → tells_reads text ≡ true → last_from 0 text ≡ 115
unfolding last_from
tells-last text h =
    let split = (ends_is Decides-eqb text (codes " toomanyreads") (tells_reads text) refl).0 h in
    ap (last_from 0) split ∙ last-append 0
    (take (length text - length (codes " toomanyreads")) text) (codes " toomanyreads")

tells-front : (front text : List ℕ) → text ≡ front ++ codes " toomanyreads"
    → tells_reads text ≡ true
tells-front front text is =
    (ends_is Decides-eqb text (codes " toomanyreads") (tells_reads text) refl).1 front is

pub never : (b : Bool) → (b ≡ true → ⊥) → b ≡ false
never b lost = by b refl
  where
    by : (t : Bool) → b ≡ t → b ≡ false
    by true e = absurd (lost e)
    by false e = e

tells-never : (text : List ℕ) (last : ℕ) → last_from 0 text ≡ last → (last == 115) ≡ false
    → tells_reads text ≡ false
tells-never text last is other =
    never (tells_reads text) (λ h. let same : last ≡ 115 = sym is ∙ tells-last text h in
    let two : (115 == 115) ≡ false = rw same at other in cc)

tells-low : (text : List ℕ) → last_from 0 text ≤ 57 → tells_reads text ≡ false
tells-low text low = tells-never text (last_from 0 text) refl (grind (arith, nat_tests))

join-last : (d : ℕ) (word next : List ℕ) (words : List (List ℕ))
    → last_from d (join_with_byte 32 (word ∷ next ∷ words))
    ≡ last_from 32 (join_with_byte 32 (next ∷ words))
unfolding last_from
join-last d word next words = last-append d word (32 ∷ join_with_byte 32 (next ∷ words))

line-last : (d : ℕ) (name : List ℕ) (line : ℕ) → IsPlace (name, line)
    → last_from d (decimal line) ≤ 57
line-last d name line place = decimal-last d line (omega (arith, place.1.0, place.1.1))

places-last : (d : ℕ) (word : List ℕ) (places : List (List ℕ × ℕ)) → 0 < length places
    → All IsPlace places → last_from d (join_with_byte 32 (word ∷ flat_map place_words places)) ≤ 57
places-last d word [] some all = absurd (omega arith)
places-last d word (p ∷ []) some all =
    let here = line-last 32 p.0 p.1 (All-head IsPlace p [] all) in
    rw (join-last d word p.0 (decimal p.1 ∷ []), join-last 32 p.0 (decimal p.1) []) here
places-last d word (p ∷ q ∷ ps) some all =
    let rest = flat_map place_words (q ∷ ps) in
    rw (join-last d word p.0 (decimal p.1 ∷ rest), join-last 32 p.0 (decimal p.1) rest)
    (places-last 32 (decimal p.1) (q ∷ ps) (omega arith) (All-tail IsPlace p (q ∷ ps) all))

-- the last byte of four words
four-last : (a b c d : List ℕ) → last_from 0 (join_with_byte 32 (a ∷ b ∷ c ∷ d ∷ []))
    ≡ last_from 32 d
four-last a b c d = join-last 0 a b (c ∷ d ∷ []) ∙ join-last 32 b c (d ∷ []) ∙ join-last 32 c d []

misuse-never : (name : List ℕ) (line : ℕ) (kind : MisuseKind) (last : ℕ)
    → last_from 32 (misuse_word kind) ≡ last → (last == 115) ≡ false
    → tells_reads (named_text (NamedMisuse name line kind)) ≡ false
misuse-never name line kind last is other =
    tells-never (named_text (NamedMisuse name line kind)) last
    (four-last (codes "misuse") name (decimal line) (misuse_word kind) ∙ is) other

fault-last : (kind : FaultKind) → (last_from 32 (fault_word kind) == 115) ≡ false
unfolding last_from
fault-last Overflow = refl
fault-last ZeroDivisor = refl
fault-last Spin = refl

-- ---- the version of a verdict

-- the verdict is of the second version alone where its text ends so
since-told : (names : NameLists) (verdict : NamedVerdict) → verdicts.IsVerdictForm names verdict
    → tells_reads (named_text verdict) ≡ (verdict_since verdict == 2)
unfolding last_from
since-told names NamedPassed form = refl
since-told names (NamedFailed name line) form =
    tells-low (named_text (NamedFailed name line))
    (rw (
      join-last 0 (codes "failed") name (decimal line ∷ []),
      join-last 32 name (decimal line) [],
    ) (line-last 32 name line form))
since-told names (NamedStuck places) form =
    tells-low (named_text (NamedStuck places)) (places-last 0 (codes "stuck") places form.0 form.1)
since-told names (NamedMisuse name line NotOwner) form =
    misuse-never name line NotOwner 114 refl refl
since-told names (NamedMisuse name line SemFull) form = misuse-never name line SemFull 108 refl refl
since-told names (NamedMisuse name line AlreadyStarted) form =
    misuse-never name line AlreadyStarted 100 refl refl
since-told names (NamedMisuse name line TooManyReads) form =
    tells-front (codes "misuse " ++ (name ++ (32 ∷ decimal line)))
    (named_text (NamedMisuse name line TooManyReads))
    (ap (λ rest. codes "misuse " ++ rest)
    (sym (append_assoc name (32 ∷ decimal line) (codes " toomanyreads"))))
since-told names (NamedFault name line kind) form =
    tells-never (named_text (NamedFault name line kind)) (last_from 32 (fault_word kind))
    (four-last (codes "fault") name (decimal line) (fault_word kind)) (fault-last kind)
since-told names NamedCut form = refl

since-known : (names : NameLists) (verdict : Verdict)
    → is_of_second verdict ≡ (verdict_since (named_verdict names verdict) == 2)
since-known names Passed = refl
since-known names (Failed thread line) = refl
since-known names (Stuck places) = refl
since-known names (Misuse thread line NotOwner) = refl
since-known names (Misuse thread line SemFull) = refl
since-known names (Misuse thread line AlreadyStarted) = refl
since-known names (Misuse thread line TooManyReads) = refl
since-known names (Fault thread line kind) = refl
since-known names Cut = refl

since-either : (verdict : NamedVerdict) → (verdict_since verdict ≡ 1) ⊎ (verdict_since verdict ≡ 2)
since-either NamedPassed = inl refl
since-either (NamedFailed name line) = inl refl
since-either (NamedStuck places) = inl refl
since-either (NamedMisuse name line NotOwner) = inl refl
since-either (NamedMisuse name line SemFull) = inl refl
since-either (NamedMisuse name line AlreadyStarted) = inl refl
since-either (NamedMisuse name line TooManyReads) = inr refl
since-either (NamedFault name line kind) = inl refl
since-either NamedCut = inl refl

-- the verdict is one of the version, where it isn't left out
within : (version since : ℕ) (second : Bool) → (version ≡ 1) ⊎ (version ≡ 2)
    → (since ≡ 1) ⊎ (since ≡ 2) → second ≡ (since == 2) → (version == 1 && second) ≡ false
    → since ≤ version
within version since second (inl a) (inl b) is h = omega arith
within version since second (inr a) (inl b) is h = omega arith
within version since second (inr a) (inr b) is h = omega arith
within version since second (inl a) (inr b) is h =
    let one : (version == 1) ≡ true = grind (arith, nat_tests) in
    let two : (since == 2) ≡ true = grind (arith, nat_tests) in
    let both : (true && true) ≡ false = rw (one, is, two) at h in
    absurd cc

kept : (version since : ℕ) (second : Bool) → (version ≡ 1) ⊎ (version ≡ 2) → second ≡ (since == 2)
    → since ≤ version → (version == 1 && second) ≡ false
kept version since second (inl a) is h =
    let apart : (since == 2) ≡ false = grind (arith, nat_tests) in
    rw (is, apart) (either (version == 1))
  where
    either : (b : Bool) → (b && false) ≡ false
    either true = refl
    either false = refl
kept version since second (inr b) is h =
    let other : (version == 1) ≡ false = grind (arith, nat_tests) in rw other

-- ---- what is read as a verdict is one by form

-- the line is that of a verdict by form, which has an unknown name where none was read
pub record IsEndText (names : NameLists) (version : ℕ) (text : List ℕ)
    (read : Option Verdict) : Type 0 where
  pub verdict : NamedVerdict
  pub words_are : words_of text ≡ words_of_form (forms.End verdict)
  pub of : IsLineOf names version (forms.End verdict)
  pub unknown : read ≡ None → HasUnknown names (forms.End verdict)

words-end : (names : NameLists) (text : List ℕ) (verdict : NamedVerdict)
    → verdicts.IsVerdictForm names verdict → text ≡ codes "verdict " ++ named_text verdict
    → words_of text ≡ words_of_form (forms.End verdict)
words-end names text verdict form is =
    ap words_of (is ∙ sym (verdict-joined verdict))
    ∙ words_of-high (codes "verdict") (verdict_words verdict)
    (high-by (codes "verdict") refl, form-high names verdict form)

guarded : (b : Bool) (row other : TraceRow) → (if b then None else Some row) ≡ Some other
    → (b ≡ false) × (row ≡ other)
guarded true row other h = absurd cc
guarded false row other h = (refl, cc)

read-is : (a b : Option Verdict) → End a ≡ End b → a ≡ b
read-is a b h = cc

some-none : (verdict : Verdict) (read : Option Verdict) → Some verdict ≡ read → read ≡ None → ⊥
some-none verdict read is none = cc

end-by : (names : NameLists) (version : ℕ) (text front rest : List ℕ) (verdict : VerdictRead)
    (read : Option Verdict) → (version ≡ 1) ⊎ (version ≡ 2) → text ≡ codes "verdict " ++ rest
    → ReadsAs names rest verdict → end_of version rest verdict ≡ Some (End read)
    → IsEndText names version text read
end-by names version text front rest NoForm read which is reads h = absurd cc
end-by names version text front rest UnknownName read which is reads h =
    let g = guarded (version == 1 && tells_reads rest) (End None) (End read) h in
    let text_is : rest ≡ named_text reads.0 = reads.3 in
    let second : tells_reads rest ≡ (verdict_since reads.0 == 2) =
    ap tells_reads text_is ∙ since-told names reads.0 reads.1 in
    record {
      verdict = reads.0;
      words_are =
          words-end names text reads.0 reads.1
          (is ∙ ap (λ (x : List ℕ). codes "verdict " ++ x) text_is);
      of = (
        reads.1,
        within version (verdict_since reads.0) (tells_reads rest) which
            (since-either reads.0) second g.0,
      );
      unknown = λ none. reads.2;
    }
end-by names version text front rest (Is verdict) read which is reads h =
    let g = guarded (version == 1 && is_of_second verdict) (End (Some verdict)) (End read) h in
    record {
      verdict = named_verdict names verdict;
      words_are =
          words-end names text (named_verdict names verdict) reads.1
          (is ∙ ap (λ (x : List ℕ). codes "verdict " ++ x) reads.2);
      of = (
        reads.1,
        within version (verdict_since (named_verdict names verdict))
            (is_of_second verdict) which (since-either (named_verdict names verdict))
            (since-known names verdict) g.0,
      );
      unknown = λ none. absurd (some-none verdict read (read-is (Some verdict) read g.1) none);
    }

pub end-form : (names : NameLists) (version : ℕ) (text : List ℕ) (read : Option Verdict)
    → (version ≡ 1) ⊎ (version ≡ 2) → row_of names version text ≡ Some (End read)
    → IsEndText names version text read
unfolding row_of
end-form names version text read which h = by (bytes_eq (take 8 text) (codes "verdict ")) refl h
  where
    by : (first : Bool) → bytes_eq (take 8 text) (codes "verdict ") ≡ first
        → (if first then end_of version (drop 8 text)
        (verdict_of_words names (words_of (drop 8 text))) else step_of_words names version
        (words_of text)) ≡ Some (End read) → IsEndText names version text read
    by true begins k =
        let front = (bytes_eq-Decides (take 8 text) (codes "verdict ")).0 begins in
        end-by names version text [] (drop 8 text) (verdict_of_words names (words_of (drop 8 text)))
        read which (sym (take-append-drop 8 text) ∙ ap (λ (x : List ℕ). x ++ drop 8 text) front)
        (ReadsAs-words names (drop 8 text)) k
    by false begins k = absurd (words-no-end names version (words_of text) read k)

-- ---- a verdict by form is read

-- what is read of the line of a verdict by form: none where it has an unknown name
pub record IsEndRead (names : NameLists) (version : ℕ) (text : List ℕ)
    (verdict : NamedVerdict) : Type 0 where
  pub read : Option Verdict
  pub is : row_of names version text ≡ Some (End read)
  pub unknown : HasUnknown names (forms.End verdict) → read ≡ None

record IsEndPart (names : NameLists) (version : ℕ) (rest : List ℕ) (verdict : NamedVerdict)
    (told : VerdictRead) : Type 0 where
  read : Option Verdict
  is : end_of version rest told ≡ Some (End read)
  unknown : HasUnknown names (forms.End verdict) → read ≡ None

left-in : (b : Bool) (row : TraceRow) → b ≡ false → (if b then None else Some row) ≡ Some row
left-in b row h = rw h

part-by : (names : NameLists) (version : ℕ) (rest : List ℕ) (verdict : NamedVerdict)
    (told : VerdictRead) → AreNames names → (version ≡ 1) ⊎ (version ≡ 2)
    → IsLineOf names version (forms.End verdict) → rest ≡ named_text verdict
    → verdict_of_words names (words_of rest) ≡ told → ReadsAs names rest told
    → IsEndPart names version rest verdict told
part-by names version rest verdict NoForm sound which of is words reads =
    absurd (reads verdict of.0 is)
part-by names version rest verdict UnknownName sound which of is words reads =
    let second : tells_reads rest ≡ (verdict_since verdict == 2) =
    ap tells_reads is ∙ since-told names verdict of.0 in
    record {
      read = None;
      is =
          left-in (version == 1 && tells_reads rest) (End None)
          (kept version (verdict_since verdict) (tells_reads rest) which second of.1);
      unknown = λ none. refl;
    }
part-by names version rest verdict (Is known) sound which of is words reads =
    let same_text : named_text (named_verdict names known) ≡ named_text verdict =
    sym reads.2 ∙ is in
    let second : is_of_second known ≡ (verdict_since verdict == 2) =
    since-known names known ∙ sym (since-told names (named_verdict names known) reads.1)
    ∙ ap tells_reads same_text ∙ since-told names verdict of.0 in
    record {
      read = Some known;
      is =
          left-in (version == 1 && is_of_second known) (End (Some known))
          (kept version (verdict_since verdict) (is_of_second known) which second of.1);
      unknown =
          λ none. absurd (other known (sym words
          ∙ ReadsAs-only names rest UnknownName sound (verdict, of.0, none, is)));
    }
  where
    other : (known : Verdict) → Is known ≡ UnknownName → ⊥
    other known h = cc

pub end-read : (names : NameLists) (version : ℕ) (text : List ℕ) (verdict : NamedVerdict)
    → AreNames names → (version ≡ 1) ⊎ (version ≡ 2)
    → words_of text ≡ words_of_form (forms.End verdict) → IsLineOf names version (forms.End verdict)
    → IsEndRead names version text verdict
unfolding row_of
end-read names version text verdict sound which words of =
    let rest = named_text verdict in
    let part = part-by names version rest verdict (verdict_of_words names (words_of rest)) sound
    which of refl refl (ReadsAs-words names rest) in
    let text_is : text ≡ codes "verdict " ++ rest =
    sym (join-words_of text) ∙ ap (join_with_byte 32) words ∙ verdict-joined verdict in
    record {
      read = part.read;
      is = ap (row_of names version) text_is ∙ part.is;
      unknown = part.unknown;
    }
