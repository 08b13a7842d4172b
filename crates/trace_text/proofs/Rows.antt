-- The lines after a head are read as they are written, and nothing else is.
use Rattle.std.specs.Prelude.{codes, decimal, ◌==◌, ◌&&◌, if◌then◌else◌}
use Rattle.std.specs.List.{join_with_byte}
use Rattle.std.specs.Str.{bytes_eq}
use Rattle.std.proofs.Common.{◌≡◌, ◌⊎◌, ℕ, ◌<◌, ◌^◌, Bool, true, false, List, [], ◌∷◌, ◌++◌, length}
use Rattle.std.proofs.Common.{take, drop, ℤ, Option, Some, None, refl, sym, ap, ◌∙◌, inl, inr}
use Rattle.std.proofs.Common.{arith}
use Rattle.std.proofs.lemmas.Bool.Decides.{nat_tests}
use Rattle.std.proofs.lemmas.Fmt.{decimal_is_IsNumeral_wide}
use Rattle.std.proofs.lemmas.List.{take-append-drop}
use Rattle.std.proofs.lemmas.Slice.Eq.{bytes_eq-Decides}
use Rattle.std.proofs.lemmas.Str.Parse.{digit_from_value}
use Rattle.std.specs.Str.Parse.{AllDigits}
use Rattle.pct_ask.specs.NameLists.{NameLists, AreNames}
use Rattle.pct_ask.specs.VerdictText.{thread_name, verdict_text, named_text, named_verdict}
use Rattle.pct_ask.specs.VerdictText.{verdict_words, NamedVerdict, NamedPassed, NamedFailed}
use Rattle.pct_ask.specs.VerdictText.{NamedStuck, NamedMisuse, NamedFault, NamedCut}
use Rattle.pct_ask.specs.VerdictRead.{ReadsAs}
use Rattle.pct_ask.specs.VerdictWords.{words_of, verdict_of_words}
use Rattle.pct_ask.specs.TraceText.{ask_words, event_words, verdict_line_words}
use Rattle.pct_ask.specs.declared.ask.Ask.{Ask}
use Rattle.pct_ask.specs.declared.event.Event.{Event}
use Rattle.pct_ask.specs.declared.verdict.Verdict.{Verdict}
use Rattle.pct_ask.specs.declared.verdict_text.VerdictRead.{VerdictRead}
use Rattle.pct_ask.specs.declared.verdict_text.VerdictRead.TheVariants.{Is, NoForm, UnknownName}
use Rattle.pct_ask.proofs.laws.VerdictsRead.{ReadsAs-words, ReadsAs-only}
use Rattle.pct_ask.proofs.laws.SplitWords.{join-words_of}
use Rattle.pct_ask.proofs.laws.TextBytes.{words_of-high}
use Rattle.trace_text.specs.Lawful.{IsStep, IsEnd, is_of_second}
use Rattle.trace_text.specs.reader.Asks.{has_form, known_words}
use Rattle.trace_text.specs.reader.StepLines.{event_of, numbered_step, step_of_parts, step_in_words}
use Rattle.trace_text.specs.reader.StepLines.{step_of_words, tells_reads, end_of, row_of}
use Rattle.trace_text.specs.declared.asks.WordsRead.{WordsRead}
use Rattle.trace_text.specs.declared.row.TraceRow.TheVariants.{Step, End}
use Rattle.trace_text.proofs.StepWords.{IsStepLine, words-told, words-known}
use Rattle.trace_text.proofs.Bytes.{step-high}

-- ---- a step

pub end-no-step : (version : ℕ) (text : List ℕ) (read : VerdictRead) (n : ℕ) (event : Option Event)
    → end_of version text read ≡ Some (Step n event) → ⊥
end-no-step version text NoForm n event h = cc
end-no-step version text UnknownName n event h = by (version == 1 && tells_reads text) h
  where
    by : (b : Bool) → (if b then None else Some (End None)) ≡ Some (Step n event) → ⊥
    by true e = cc
    by false e = cc
end-no-step version text (Is verdict) n event h = by (version == 1 && is_of_second verdict) h
  where
    by : (b : Bool) → (if b then None else Some (End (Some verdict))) ≡ Some (Step n event) → ⊥
    by true e = cc
    by false e = cc

step-by : (names : NameLists) (version : ℕ) (text : List ℕ) (first : Bool) (n : ℕ) (event : Event)
    → (if first then end_of version (drop 8 text) (verdict_of_words names (words_of (drop 8 text)))
    else step_of_words names version (words_of text)) ≡ Some (Step n (Some event))
    → IsStepLine names version (words_of text) n event
step-by names version text true n event h =
    absurd (end-no-step version (drop 8 text) (verdict_of_words names (words_of (drop 8 text))) n
    (Some event) h)
step-by names version text false n event h = words-told names version (words_of text) n event h

pub step-told : (names : NameLists) (version : ℕ) (text : List ℕ) (n : ℕ) (event : Event)
    → row_of names version text ≡ Some (Step n (Some event))
    → (text ≡ join_with_byte 32 (event_words names n event)) × IsStep names version event
unfolding row_of
step-told names version text n event h =
    let line = step-by names version text (bytes_eq (take 8 text) (codes "verdict ")) n event h in
    (sym (join-words_of text) ∙ ap (join_with_byte 32) line.words_are, line.lawful)

pub digit-first : (ds others : List ℕ) → 0 < length ds → AllDigits 10 ds
    → bytes_eq (take 8 (ds ++ others)) (codes "verdict ") ≡ false
digit-first [] others some digits = absurd (omega arith)
digit-first (d ∷ ds) others some digits =
    let range = digit_from_value d digits.0 in
    let other : (d == 118) ≡ false = grind (arith, nat_tests) in
    rw other

join-first : (word next : List ℕ) (words : List (List ℕ))
    → join_with_byte 32 (word ∷ next ∷ words) ≡ word ++ (32 ∷ join_with_byte 32 (next ∷ words))
join-first word next words = refl

pub step-known : (names : NameLists) (version n : ℕ) (event : Event) → AreNames names
    → IsStep names version event → n < 2 ^ 63
    → row_of names version (join_with_byte 32 (event_words names n event))
    ≡ Some (Step n (Some event))
unfolding row_of
step-known names version n event sound step small =
    let words = event_words names n event in
    let others = thread_name names event.thread ∷ decimal event.line
    ∷ (ask_words names event.ask ++ codes "=" ∷ Rattle.std.specs.Fmt.signed_decimal event.answer
    ∷ []) in
    let numeral = (decimal_is_IsNumeral_wide n (omega arith)).0 in
    let apart : bytes_eq (take 8 (join_with_byte 32 words)) (codes "verdict ") ≡ false =
    digit-first (decimal n) (32 ∷ join_with_byte 32 others) numeral.0 numeral.1 in
    let high = step-high names version n event sound step small in
    rw apart (ap (step_of_words names version) (words_of-high (decimal n) others high)
    ∙ words-known names version n event sound step small)

-- ---- a verdict

numbered-no-end : (number : ℕ) (thread : WordsRead ℕ) (line : ℕ) (ask : WordsRead Ask) (answer : ℤ)
    (verdict : Option Verdict) → numbered_step number thread line ask answer ≡ Some (End verdict)
    → ⊥
numbered-no-end number thread line ask answer verdict h = by (has_form thread && has_form ask) h
  where
    by : (b : Bool) → (if b then Some (Step number
        (event_of (known_words thread) line (known_words ask) answer)) else None)
        ≡ Some (End verdict) → ⊥
    by true e = cc
    by false e = cc

parts-no-end : (number : Option ℕ) (thread : WordsRead ℕ) (line : Option ℕ) (ask : WordsRead Ask)
    (sign : Bool) (answer : Option ℤ) (verdict : Option Verdict)
    → step_of_parts number thread line ask sign answer ≡ Some (End verdict) → ⊥
parts-no-end None thread line ask sign answer verdict h = cc
parts-no-end (Some m) thread None ask sign answer verdict h = cc
parts-no-end (Some m) thread (Some l) ask false answer verdict h = cc
parts-no-end (Some m) thread (Some l) ask true None verdict h = cc
parts-no-end (Some m) thread (Some l) ask true (Some v) verdict h =
    numbered-no-end m thread l ask v verdict h

step-no-end : (names : NameLists) (number thread line : List ℕ) (ask : WordsRead Ask)
    (sign answer : List ℕ) (verdict : Option Verdict)
    → step_in_words names number thread line ask sign answer ≡ Some (End verdict) → ⊥
unfolding step_in_words
step-no-end names number thread line ask sign answer verdict h = parts-no-end _ _ _ _ _ _ verdict h

none-end : (verdict : Option Verdict) → None ≡ Some (End verdict) → ⊥
none-end verdict h = cc

pub words-no-end : (names : NameLists) (version : ℕ) (words : List (List ℕ))
    (verdict : Option Verdict) → step_of_words names version words ≡ Some (End verdict) → ⊥
words-no-end names version [] v h = none-end v h
words-no-end names version (a ∷ []) v h = none-end v h
words-no-end names version (a ∷ b ∷ []) v h = none-end v h
words-no-end names version (a ∷ b ∷ c ∷ []) v h = none-end v h
words-no-end names version (a ∷ b ∷ c ∷ d ∷ []) v h = none-end v h
words-no-end names version (a ∷ b ∷ c ∷ d ∷ e ∷ []) v h = none-end v h
words-no-end names version (n ∷ t ∷ l ∷ w ∷ s ∷ x ∷ []) v h = step-no-end names n t l _ s x v h
words-no-end names version (n ∷ t ∷ l ∷ w ∷ a ∷ s ∷ x ∷ []) v h = step-no-end names n t l _ s x v h
words-no-end names version (n ∷ t ∷ l ∷ w ∷ a ∷ b ∷ s ∷ x ∷ []) v h =
    step-no-end names n t l _ s x v h
words-no-end names version (n ∷ t ∷ l ∷ w ∷ a ∷ b ∷ c ∷ s ∷ x ∷ []) v h =
    step-no-end names n t l _ s x v h
words-no-end names version (a ∷ b ∷ c ∷ d ∷ e ∷ f ∷ g ∷ i ∷ j ∷ k ∷ words) v h = none-end v h

end-inv : (version : ℕ) (text : List ℕ) (read : VerdictRead) (verdict : Verdict)
    → end_of version text read ≡ Some (End (Some verdict))
    → (read ≡ Is verdict) × ((version == 1 && is_of_second verdict) ≡ false)
end-inv version text NoForm verdict h = absurd cc
end-inv version text UnknownName verdict h = absurd (by (version == 1 && tells_reads text) h)
  where
    by : (b : Bool) → (if b then None else Some (End None)) ≡ Some (End (Some verdict)) → ⊥
    by true e = cc
    by false e = cc
end-inv version text (Is other) verdict h = by (version == 1 && is_of_second other) refl h
  where
    by : (b : Bool) → (version == 1 && is_of_second other) ≡ b
        → (if b then None else Some (End (Some other))) ≡ Some (End (Some verdict))
        → (Is other ≡ Is verdict) × ((version == 1 && is_of_second verdict) ≡ false)
    by true p e = absurd cc
    by false p e = let same : other ≡ verdict = cc in
        (ap (λ v. Is v) same, ap (λ v. version == 1 && is_of_second v) (sym same) ∙ p)

known-by : (version : ℕ) (of_second one : Bool) → (version == 1) ≡ one → (one && of_second) ≡ false
    → (version ≡ 1) ⊎ (version ≡ 2) → (of_second ≡ false) ⊎ (version ≡ 2)
known-by version false one p h which = inl refl
known-by version true true p h which = absurd cc
known-by version true false p h (inl one) =
    let same : (version == 1) ≡ true = grind (arith, nat_tests) in absurd cc
known-by version true false p h (inr two) = inr two

-- the text of the verdict's line
pub verdict-joined : (verdict : NamedVerdict)
    → join_with_byte 32 (codes "verdict" ∷ verdict_words verdict)
    ≡ codes "verdict " ++ named_text verdict
verdict-joined NamedPassed = refl
verdict-joined (NamedFailed name line) = refl
verdict-joined (NamedStuck places) = refl
verdict-joined (NamedMisuse name line kind) = refl
verdict-joined (NamedFault name line kind) = refl
verdict-joined NamedCut = refl

pub record IsEndLine (names : NameLists) (version : ℕ) (text : List ℕ) (verdict : Verdict) : Type
    0 where
  pub text_is : text ≡ join_with_byte 32 (verdict_line_words names verdict)
  pub lawful : IsEnd names version verdict

end-by : (names : NameLists) (version : ℕ) (text : List ℕ) (first : Bool) (verdict : Verdict)
    → (version ≡ 1) ⊎ (version ≡ 2) → bytes_eq (take 8 text) (codes "verdict ") ≡ first
    → (if first then end_of version (drop 8 text) (verdict_of_words names (words_of (drop 8 text)))
    else step_of_words names version (words_of text)) ≡ Some (End (Some verdict))
    → IsEndLine names version text verdict
end-by names version text true verdict which begins h =
    let i = end-inv version (drop 8 text) (verdict_of_words names (words_of (drop 8 text))) verdict
    h in
    let reads : ReadsAs names (drop 8 text) (Is verdict) =
    rw i.0 at (ReadsAs-words names (drop 8 text)) in
    let front = (bytes_eq-Decides (take 8 text) (codes "verdict ")).0 begins in
    record {
      text_is =
          sym (take-append-drop 8 text) ∙ ap (λ (x : List ℕ). x ++ drop 8 text) front
          ∙ ap (λ (x : List ℕ). codes "verdict " ++ x) reads.2
          ∙ sym (verdict-joined (named_verdict names verdict));
      lawful = record {
        threads = reads.0;
        form = reads.1;
        known = known-by version (is_of_second verdict) (version == 1) refl i.1 which;
      };
    }
end-by names version text false verdict which begins h =
    absurd (words-no-end names version (words_of text) (Some verdict) h)

pub end-told : (names : NameLists) (version : ℕ) (text : List ℕ) (verdict : Verdict)
    → (version ≡ 1) ⊎ (version ≡ 2) → row_of names version text ≡ Some (End (Some verdict))
    → IsEndLine names version text verdict
unfolding row_of
end-told names version text verdict which h =
    end-by names version text (bytes_eq (take 8 text) (codes "verdict ")) verdict which refl h

end-kept : (version : ℕ) (text : List ℕ) (verdict : Verdict)
    → (is_of_second verdict ≡ false) ⊎ (version ≡ 2)
    → end_of version text (Is verdict) ≡ Some (End (Some verdict))
end-kept version text verdict (inl first) = rw first (by (version == 1))
  where
    by : (b : Bool) → (if b && false then None else Some (End (Some verdict)))
        ≡ Some (End (Some verdict))
    by true = refl
    by false = refl
end-kept version text verdict (inr two) =
    let other : (version == 1) ≡ false = grind (arith, nat_tests) in rw other

pub end-known : (names : NameLists) (version : ℕ) (verdict : Verdict) → AreNames names
    → IsEnd names version verdict → row_of names version
    (join_with_byte 32 (verdict_line_words names verdict)) ≡ Some (End (Some verdict))
unfolding row_of
end-known names version verdict sound end =
    let reads = ReadsAs-only names (verdict_text names verdict) (Is verdict) sound
    (end.threads, end.form, refl) in
    rw (verdict-joined (named_verdict names verdict), reads)
    (end-kept version (verdict_text names verdict) verdict end.known)
