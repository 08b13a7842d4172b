-- How the line of a verdict is read, and how many words a step has.
use Rattle.std.specs.Prelude.{◌==◌, ◌&&◌, if◌then◌else◌, codes}
use Rattle.std.specs.Str.{bytes_eq}
use Rattle.std.proofs.Common.{◌≡◌, ◌≢◌, ℕ, Bool, true, false, List, [], ◌∷◌, length, take, get_or}
use Rattle.std.proofs.Common.{ℤ, Option, Some, None, Bor, refl, ◌∙◌, ap, arith}
use Rattle.std.proofs.lemmas.Bool.Decides.{nat_tests}
use Rattle.pct_ask.specs.NameLists.{NameLists}
use Rattle.pct_ask.specs.declared.names.NameKind.TheVariants.{Thread}
use Rattle.pct_ask.specs.declared.ask.Ask.{Ask}
use Rattle.pct_ask.specs.declared.verdict.Verdict.{Verdict}
use Rattle.pct_ask.specs.declared.verdict_text.VerdictRead.{VerdictRead}
use Rattle.pct_ask.specs.declared.verdict_text.VerdictRead.TheVariants.{Is, NoForm, UnknownName}
use Rattle.pct_ask.specs.VerdictWords.{words_of}
use Rattle.pct_ask.specs.VerdictWords.{line_number}
use Rattle.pct_ask.specs.declared.trace_verbs.Operands.TheVariants.{Three}
use Rattle.pct_ask.specs.Pieces.{seen}
use Rattle.trace_text.specs.Lawful.{is_of_second}
use Rattle.trace_text.specs.reader.Numbers.{i64_in, natural_of}
use Rattle.trace_text.specs.reader.Asks.{object, ask_of_words}
use Rattle.trace_text.specs.declared.asks.WordsRead.{WordsRead}
use Rattle.trace_text.specs.reader.StepLines.{tells_reads, end_of, numbered_step, step_in_words}
use Rattle.trace_text.specs.reader.StepLines.{step_of_words, row_of}
use Rattle.trace_text.specs.declared.row.TraceRow.{TraceRow}
use Rattle.trace_text.specs.declared.row.TraceRow.TheVariants.{End}

pub end-none : (version : ℕ) (text : List ℕ) (read : VerdictRead) → read ≡ NoForm
    → None ≡ end_of version text read
end-none version text read is = rw is

pub end-left_out : (version : ℕ) (text : List ℕ) (read : VerdictRead) → read ≡ UnknownName
    → version ≡ 1 → tells_reads text ≡ true → None ≡ end_of version text read
end-left_out version text read is one tells = rw (is, one, tells)

both-no : {A : Type 0} (b : Bool) (x y : A) → y ≡ (if b && false then x else y)
both-no true x y = refl
both-no false x y = refl

other-version : (version : ℕ) → version ≢ 1 → (version == 1) ≡ false
other-version version apart = grind (arith, nat_tests)

pub end-other_text : (version : ℕ) (text : List ℕ) (read : VerdictRead) → read ≡ UnknownName
    → tells_reads text ≡ false → Some (End None) ≡ end_of version text read
end-other_text version text read is tells =
    rw (is, tells) (both-no (version == 1) None (Some (End None)))

pub end-other_version : (version : ℕ) (text : List ℕ) (read : VerdictRead) → read ≡ UnknownName
    → version ≢ 1 → Some (End None) ≡ end_of version text read
end-other_version version text read is apart = rw (is, other-version version apart)

pub end-misuse : (version : ℕ) (text : List ℕ) (read : VerdictRead) (verdict : Verdict)
    → read ≡ Is verdict → version ≡ 1 → is_of_second verdict ≡ true
    → None ≡ end_of version text read
end-misuse version text read verdict is one second = rw (is, one, second)

pub end-other_verdict : (version : ℕ) (text : List ℕ) (read : VerdictRead) (verdict : Verdict)
    → read ≡ Is verdict → is_of_second verdict ≡ false
    → Some (End (Some verdict)) ≡ end_of version text read
end-other_verdict version text read verdict is first =
    rw (is, first) (both-no (version == 1) None (Some (End (Some verdict))))

pub end-verdict : (version : ℕ) (text : List ℕ) (read : VerdictRead) (verdict : Verdict)
    → read ≡ Is verdict → version ≢ 1 → Some (End (Some verdict)) ≡ end_of version text read
end-verdict version text read verdict is apart = rw (is, other-version version apart)

-- ---- the words of a step

pub step-unanswered : (names : NameLists) (number thread line : List ℕ) (ask : WordsRead Ask)
    (sign answer : List ℕ) (n l : ℕ) → natural_of number ≡ Some n → line_number line ≡ Some l
    → bytes_eq sign (codes "=") ≡ true → i64_in answer ≡ None
    → step_in_words names number thread line ask sign answer ≡ None
unfolding step_in_words
step-unanswered names number thread line ask sign answer n l p q r s = rw (p, q, r, s)

pub step-whole : (names : NameLists) (number thread line : List ℕ) (ask : WordsRead Ask)
    (sign answer : List ℕ) (n l : ℕ) (v : ℤ) → natural_of number ≡ Some n
    → line_number line ≡ Some l → bytes_eq sign (codes "=") ≡ true → i64_in answer ≡ Some v
    → step_in_words names number thread line ask sign answer ≡ numbered_step n
    (object names Thread thread) l ask v
unfolding step_in_words
step-whole names number thread line ask sign answer n l v p q r s = rw (p, q, r, s)

-- no other number of words makes a step
pub step_of_words-other : (names : NameLists) (version : ℕ) (words : List (Bor (List ℕ)))
    → length words ≢ 6 → length words ≢ 7 → length words ≢ 8 → length words ≢ 9
    → step_of_words names version (seen words) ≡ None
step_of_words-other names version [] p q r s = refl
step_of_words-other names version (a ∷ []) p q r s = refl
step_of_words-other names version (a ∷ b ∷ []) p q r s = refl
step_of_words-other names version (a ∷ b ∷ c ∷ []) p q r s = refl
step_of_words-other names version (a ∷ b ∷ c ∷ d ∷ []) p q r s = refl
step_of_words-other names version (a ∷ b ∷ c ∷ d ∷ e ∷ []) p q r s = refl
step_of_words-other names version (a ∷ b ∷ c ∷ d ∷ e ∷ f ∷ []) p q r s = absurd (p refl)
step_of_words-other names version (a ∷ b ∷ c ∷ d ∷ e ∷ f ∷ g ∷ []) p q r s = absurd (q refl)
step_of_words-other names version (a ∷ b ∷ c ∷ d ∷ e ∷ f ∷ g ∷ h ∷ []) p q r s = absurd (r refl)
step_of_words-other names version (a ∷ b ∷ c ∷ d ∷ e ∷ f ∷ g ∷ h ∷ i ∷ []) p q r s = absurd (s refl)
step_of_words-other names version (a ∷ b ∷ c ∷ d ∷ e ∷ f ∷ g ∷ h ∷ i ∷ j ∷ words) p q r s = refl

-- only the first ten words count
pub step_of_words-take : (names : NameLists) (version : ℕ) (words : List (List ℕ))
    → step_of_words names version (take 10 words) ≡ step_of_words names version words
step_of_words-take names version [] = refl
step_of_words-take names version (a ∷ []) = refl
step_of_words-take names version (a ∷ b ∷ []) = refl
step_of_words-take names version (a ∷ b ∷ c ∷ []) = refl
step_of_words-take names version (a ∷ b ∷ c ∷ d ∷ []) = refl
step_of_words-take names version (a ∷ b ∷ c ∷ d ∷ e ∷ []) = refl
step_of_words-take names version (a ∷ b ∷ c ∷ d ∷ e ∷ f ∷ []) = refl
step_of_words-take names version (a ∷ b ∷ c ∷ d ∷ e ∷ f ∷ g ∷ []) = refl
step_of_words-take names version (a ∷ b ∷ c ∷ d ∷ e ∷ f ∷ g ∷ h ∷ []) = refl
step_of_words-take names version (a ∷ b ∷ c ∷ d ∷ e ∷ f ∷ g ∷ h ∷ i ∷ []) = refl
step_of_words-take names version (a ∷ b ∷ c ∷ d ∷ e ∷ f ∷ g ∷ h ∷ i ∷ j ∷ words) = refl

-- a line that doesn't begin as the verdict's
pub row-step : (names : NameLists) (version : ℕ) (text : List ℕ)
    → bytes_eq (take 8 text) (codes "verdict ") ≡ false
    → row_of names version text ≡ step_of_words names version (words_of text)
unfolding row_of
row-step names version text other = rw other

-- the words of a step whose ask has four
pub nine-words : (names : NameLists) (version : ℕ) (words : List (Bor (List ℕ))) (d : Bor (List ℕ))
    (ask : WordsRead Ask) (result : Option TraceRow) → length words ≡ 9
    → ask ≡ ask_of_words names version (get_or words 3 d).now
    (Three (get_or words 4 d).now (get_or words 5 d).now (get_or words 6 d).now)
    → result ≡ step_in_words names (get_or words 0 d).now (get_or words 1 d).now
    (get_or words 2 d).now ask (get_or words 7 d).now (get_or words 8 d).now
    → result ≡ step_of_words names version (seen words)
nine-words names version [] x ask result long p q = absurd (omega arith)
nine-words names version (a ∷ []) x ask result long p q = absurd (omega arith)
nine-words names version (a ∷ b ∷ []) x ask result long p q = absurd (omega arith)
nine-words names version (a ∷ b ∷ c ∷ []) x ask result long p q = absurd (omega arith)
nine-words names version (a ∷ b ∷ c ∷ d ∷ []) x ask result long p q = absurd (omega arith)
nine-words names version (a ∷ b ∷ c ∷ d ∷ e ∷ []) x ask result long p q = absurd (omega arith)
nine-words names version (a ∷ b ∷ c ∷ d ∷ e ∷ f ∷ []) x ask result long p q = absurd (omega arith)
nine-words names version (a ∷ b ∷ c ∷ d ∷ e ∷ f ∷ g ∷ []) x ask result long p q =
    absurd (omega arith)
nine-words names version (a ∷ b ∷ c ∷ d ∷ e ∷ f ∷ g ∷ h ∷ []) x ask result long p q =
    absurd (omega arith)
nine-words names version (a ∷ b ∷ c ∷ d ∷ e ∷ f ∷ g ∷ h ∷ i ∷ []) x ask result long p q =
    q ∙ ap (λ k. step_in_words names a.now b.now c.now k h.now i.now) p
nine-words names version (a ∷ b ∷ c ∷ d ∷ e ∷ f ∷ g ∷ h ∷ i ∷ j ∷ words) x ask result long p q =
    absurd (omega arith)
