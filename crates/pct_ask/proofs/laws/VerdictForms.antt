-- The words of a verdict's text by form, and the forms of words that are read as a verdict.
use Rattle.std.specs.Prelude.{codes, decimal, if◌then◌else◌}
use Rattle.std.specs.List.{flat_map}
use Rattle.std.specs.Option.{option_map}
use Rattle.std.specs.Str.{bytes_eq}
use Rattle.std.proofs.Common.{◌≡◌, ℕ, ◌<◌, Bool, true, false, List, [], ◌∷◌, length}
use Rattle.std.proofs.Common.{Option, Some, None, refl, sym, ◌∙◌, ap, arith}
use Rattle.pct_ask.specs.Words.{is_name}
use Rattle.pct_ask.specs.NameLists.{NameLists, place_of}
use Rattle.pct_ask.specs.VerdictText.{NamedVerdict, NamedPassed, NamedFailed, NamedStuck}
use Rattle.pct_ask.specs.VerdictText.{NamedMisuse, NamedFault, NamedCut, misuse_word, fault_word}
use Rattle.pct_ask.specs.VerdictText.{place_words, verdict_words, named_text}
use Rattle.pct_ask.specs.VerdictText.{IsPlace, IsVerdictForm}
use Rattle.pct_ask.specs.VerdictText.{known_threads}
use Rattle.pct_ask.specs.VerdictWords.{words_of, line_number, place_by, first_place, misuse_kind}
use Rattle.pct_ask.specs.VerdictWords.{fault_kind, placed_kind, placed_read}
use Rattle.pct_ask.specs.VerdictWords.{placed_words, stuck_words, verdict_of_words}
use Rattle.pct_ask.specs.declared.ask.FaultKind.{FaultKind}
use Rattle.pct_ask.specs.declared.ask.FaultKind.TheVariants.{Overflow, ZeroDivisor, Spin}
use Rattle.pct_ask.specs.declared.verdict.MisuseKind.{MisuseKind}
use Rattle.pct_ask.specs.declared.verdict.MisuseKind.TheVariants.{NotOwner, SemFull, AlreadyStarted}
use Rattle.pct_ask.specs.declared.verdict.MisuseKind.TheVariants.{TooManyReads}
use Rattle.pct_ask.specs.declared.verdict.Verdict.TheVariants.{Passed}
use Rattle.pct_ask.specs.declared.verdict.Verdict.TheVariants.{Cut}
use Rattle.pct_ask.specs.declared.verdict_text.VerdictRead.{VerdictRead}
use Rattle.pct_ask.specs.declared.verdict_text.VerdictRead.TheVariants.{Is, NoForm}
use Rattle.pct_ask.specs.declared.verdict_words.PlacedKind.{PlacedKind}
use Rattle.pct_ask.specs.declared.verdict_words.PlacedKind.TheVariants.{Failure, Misused, Faulted}
use Rattle.pct_ask.proofs.laws.SameWords.{same-word}
use Rattle.pct_ask.proofs.laws.TextBytes.{words_of-high, form-high}
use Rattle.pct_ask.proofs.VerdictWordLemmas.{line_number-decimal, line_number-Some}
use Rattle.pct_ask.proofs.StuckLemmas.{stuck_places, stuck_words-places, stuck_words-read}
use Rattle.pct_ask.proofs.StuckLemmas.{stuck_places-form, increasing-RiseFrom}

-- ---- the words of a verdict's text

-- a verdict's text is cut into its words
pub words_of-named : (names : NameLists) (verdict : NamedVerdict) → IsVerdictForm names verdict
    → words_of (named_text verdict) ≡ verdict_words verdict
words_of-named names NamedPassed form = refl
words_of-named names (NamedFailed name line) form =
    words_of-high (codes "failed") (name ∷ decimal line ∷ [])
    (form-high names (NamedFailed name line) form)
words_of-named names (NamedStuck places) form =
    words_of-high (codes "stuck") (flat_map place_words places)
    (form-high names (NamedStuck places) form)
words_of-named names (NamedMisuse name line kind) form =
    words_of-high (codes "misuse") (name ∷ decimal line ∷ misuse_word kind ∷ [])
    (form-high names (NamedMisuse name line kind) form)
words_of-named names (NamedFault name line kind) form =
    words_of-high (codes "fault") (name ∷ decimal line ∷ fault_word kind ∷ [])
    (form-high names (NamedFault name line kind) form)
words_of-named names NamedCut form = refl

-- ---- what a verdict by form is read as

abbrev pub outcome : NameLists → NamedVerdict → VerdictRead
outcome names NamedPassed = Is Passed
outcome names (NamedFailed name line) =
    placed_read (Some Failure) (place_of name names.threads) line
outcome names (NamedStuck places) = stuck_places names 0 [] false places
outcome names (NamedMisuse name line kind) =
    placed_read (Some (Misused kind)) (place_of name names.threads) line
outcome names (NamedFault name line kind) =
    placed_read (Some (Faulted kind)) (place_of name names.threads) line
outcome names NamedCut = Is Cut

misuse-read : (kind : MisuseKind) → misuse_kind (misuse_word kind) ≡ Some kind
misuse-read NotOwner = refl
misuse-read SemFull = refl
misuse-read AlreadyStarted = refl
misuse-read TooManyReads = refl

fault-read : (kind : FaultKind) → fault_kind (fault_word kind) ≡ Some kind
fault-read Overflow = refl
fault-read ZeroDivisor = refl
fault-read Spin = refl

pub form-read : (names : NameLists) (verdict : NamedVerdict) → IsVerdictForm names verdict
    → verdict_of_words names (verdict_words verdict) ≡ outcome names verdict
form-read names NamedPassed form = refl
form-read names (NamedFailed name line) form =
    rw (form.0, line_number-decimal line (decimal line) form.1 refl)
form-read names (NamedStuck []) form = absurd (omega (arith, form.0))
form-read names (NamedStuck (p ∷ ps)) form = stuck_words-places names 0 [] false (p ∷ ps) form.1
form-read names (NamedMisuse name line kind) form =
    rw (form.0, line_number-decimal line (decimal line) form.1 refl, misuse-read kind)
form-read names (NamedFault name line kind) form =
    rw (form.0, line_number-decimal line (decimal line) form.1 refl, fault-read kind)
form-read names NamedCut form = refl

-- ---- what is read as a form is a verdict by form

pub record Shown (names : NameLists) (words : List (List ℕ)) (read : VerdictRead) : Type 0 where
  pub verdict : NamedVerdict
  pub form : IsVerdictForm names verdict
  pub spelled : words ≡ verdict_words verdict
  pub same : outcome names verdict ≡ read

misuse-by : (word : List ℕ) (kind : MisuseKind) (a b c d : Bool)
    → bytes_eq word (codes "notowner") ≡ a → bytes_eq word (codes "semfull") ≡ b
    → bytes_eq word (codes "alreadystarted") ≡ c → bytes_eq word (codes "toomanyreads") ≡ d
    → (if a then Some NotOwner else (if b then Some SemFull else
    (if c then Some AlreadyStarted else (if d then Some TooManyReads else None)))) ≡ Some kind
    → word ≡ misuse_word kind
misuse-by word kind true b c d p q r s h = let same : NotOwner ≡ kind = cc in
    same-word word (codes "notowner") p ∙ ap misuse_word same
misuse-by word kind false true c d p q r s h = let same : SemFull ≡ kind = cc in
    same-word word (codes "semfull") q ∙ ap misuse_word same
misuse-by word kind false false true d p q r s h = let same : AlreadyStarted ≡ kind = cc in
    same-word word (codes "alreadystarted") r ∙ ap misuse_word same
misuse-by word kind false false false true p q r s h = let same : TooManyReads ≡ kind = cc in
    same-word word (codes "toomanyreads") s ∙ ap misuse_word same
misuse-by word kind false false false false p q r s h = cc

fault-by : (word : List ℕ) (kind : FaultKind) (a b c : Bool) → bytes_eq word (codes "overflow") ≡ a
    → bytes_eq word (codes "zerodivisor") ≡ b → bytes_eq word (codes "spin") ≡ c
    → (if a then Some Overflow else (if b then Some ZeroDivisor else
    (if c then Some Spin else None))) ≡ Some kind → word ≡ fault_word kind
fault-by word kind true b c p q r h = let same : Overflow ≡ kind = cc in
    same-word word (codes "overflow") p ∙ ap fault_word same
fault-by word kind false true c p q r h = let same : ZeroDivisor ≡ kind = cc in
    same-word word (codes "zerodivisor") q ∙ ap fault_word same
fault-by word kind false false true p q r h = let same : Spin ≡ kind = cc in
    same-word word (codes "spin") r ∙ ap fault_word same
fault-by word kind false false false p q r h = cc

-- a word that is read as a fault is the fault's word
pub fault_word-read : (word : List ℕ) (kind : FaultKind) → fault_kind word ≡ Some kind
    → word ≡ fault_word kind
fault_word-read word kind h =
    fault-by word kind (bytes_eq word (codes "overflow")) (bytes_eq word (codes "zerodivisor"))
    (bytes_eq word (codes "spin")) refl refl refl h

abbrev kind_head : PlacedKind → List ℕ
kind_head Failure = codes "failed"
kind_head (Misused kind) = codes "misuse"
kind_head (Faulted kind) = codes "fault"

abbrev kind_rest : PlacedKind → List (List ℕ)
kind_rest Failure = []
kind_rest (Misused kind) = misuse_word kind ∷ []
kind_rest (Faulted kind) = fault_word kind ∷ []

bare-kind : (head : List ℕ) (kind : PlacedKind) (failed : Bool)
    → bytes_eq head (codes "failed") ≡ failed → (if failed then Some Failure else None) ≡ Some kind
    → (head ≡ kind_head kind) × ([] ≡ kind_rest kind)
bare-kind head kind true p h = let same : Failure ≡ kind = cc in
    (same-word head (codes "failed") p ∙ ap kind_head same, ap kind_rest same)
bare-kind head kind false p h = cc

misused-kind : (head word : List ℕ) (kind : PlacedKind) (misuse : Option MisuseKind)
    → head ≡ codes "misuse" → misuse_kind word ≡ misuse
    → option_map (λ k. Misused k) misuse ≡ Some kind
    → (head ≡ kind_head kind) × (word ∷ [] ≡ kind_rest kind)
misused-kind head word kind None p q h = cc
misused-kind head word kind (Some k) p q h =
    let same : Misused k ≡ kind = cc in
    let spelled = misuse-by word k (bytes_eq word (codes "notowner"))
    (bytes_eq word (codes "semfull")) (bytes_eq word (codes "alreadystarted"))
    (bytes_eq word (codes "toomanyreads")) refl refl refl refl q in
    (p ∙ ap kind_head same, ap (λ w. w ∷ []) spelled ∙ ap kind_rest same)

faulted-kind : (head word : List ℕ) (kind : PlacedKind) (fault : Option FaultKind)
    → head ≡ codes "fault" → fault_kind word ≡ fault → option_map (λ k. Faulted k) fault ≡ Some kind
    → (head ≡ kind_head kind) × (word ∷ [] ≡ kind_rest kind)
faulted-kind head word kind None p q h = cc
faulted-kind head word kind (Some k) p q h =
    let same : Faulted k ≡ kind = cc in
    let spelled = fault_word-read word k q in
    (p ∙ ap kind_head same, ap (λ w. w ∷ []) spelled ∙ ap kind_rest same)

word-kind : (head word : List ℕ) (kind : PlacedKind) (misuse fault : Bool)
    → bytes_eq head (codes "misuse") ≡ misuse → bytes_eq head (codes "fault") ≡ fault
    → (if misuse then option_map (λ k. Misused k) (misuse_kind word) else
    (if fault then option_map (λ k. Faulted k) (fault_kind word) else None)) ≡ Some kind
    → (head ≡ kind_head kind) × (word ∷ [] ≡ kind_rest kind)
word-kind head word kind true fault p q h =
    misused-kind head word kind (misuse_kind word) (same-word head (codes "misuse") p) refl h
word-kind head word kind false true p q h =
    faulted-kind head word kind (fault_kind word) (same-word head (codes "fault") q) refl h
word-kind head word kind false false p q h = cc

kind-words : (head : List ℕ) (rest : List (List ℕ)) (kind : PlacedKind)
    → placed_kind head rest ≡ Some kind → (head ≡ kind_head kind) × (rest ≡ kind_rest kind)
kind-words head [] kind h = bare-kind head kind (bytes_eq head (codes "failed")) refl h
kind-words head (word ∷ []) kind h =
    word-kind head word kind (bytes_eq head (codes "misuse")) (bytes_eq head (codes "fault")) refl
    refl h
kind-words head (word ∷ other ∷ rest) kind h = cc

shown-kind : (names : NameLists) (name : List ℕ) (line : ℕ) (kind : PlacedKind) (read : VerdictRead)
    → IsPlace (name, line) → placed_read (Some kind) (place_of name names.threads) line ≡ read
    → Shown names (kind_head kind ∷ name ∷ decimal line ∷ kind_rest kind) read
shown-kind names name line Failure read place e = record {
  verdict = NamedFailed name line;
  form = place;
  spelled = refl;
  same = e;
}
shown-kind names name line (Misused kind) read place e = record {
  verdict = NamedMisuse name line kind;
  form = place;
  spelled = refl;
  same = e;
}
shown-kind names name line (Faulted kind) read place e = record {
  verdict = NamedFault name line kind;
  form = place;
  spelled = refl;
  same = e;
}

shown-placed : (names : NameLists) (head name word : List ℕ) (rest : List (List ℕ)) (line : ℕ)
    (kind : Option PlacedKind) (read : VerdictRead) → (read ≡ NoForm → ⊥) → IsPlace (name, line)
    → word ≡ decimal line → placed_kind head rest ≡ kind
    → placed_read kind (place_of name names.threads) line ≡ read
    → Shown names (head ∷ name ∷ word ∷ rest) read
shown-placed names head name word rest line None read form place number is e = absurd (form (sym e))
shown-placed names head name word rest line (Some kind) read form place number is e =
    let words = kind-words head rest kind is in
    rw (words.0, words.1, number) (shown-kind names name line kind read place e)

shown-at : (names : NameLists) (head name word : List ℕ) (rest : List (List ℕ)) (lawful : Bool)
    (number : Option ℕ) (read : VerdictRead) → (read ≡ NoForm → ⊥) → is_name 1 name ≡ lawful
    → line_number word ≡ number → placed_words head
    (place_by lawful (place_of name names.threads) number rest) ≡ read
    → Shown names (head ∷ name ∷ word ∷ rest) read
shown-at names head name word rest false number read form is spells e = absurd (form (sym e))
shown-at names head name word rest true None read form is spells e = absurd (form (sym e))
shown-at names head name word rest true (Some line) read form is spells e =
    let number = line_number-Some line word spells in
    shown-placed names head name word rest line (placed_kind head rest) read form (is, number.0)
    number.1 refl e

shown-places : (names : NameLists) (head : List ℕ) (words : List (List ℕ)) (read : VerdictRead)
    → (read ≡ NoForm → ⊥) → head ≡ codes "stuck" → 0 < length words
    → stuck_words names 0 [] false words ≡ read → Shown names (head ∷ words) read
shown-places names head words read form is some e =
    let shown = stuck_words-read names 0 [] false words read form e in
    let rises = increasing-RiseFrom 0 (known_threads names shown.places)
    (stuck_places-form names 0 [] false shown.places read form shown.same) in
    let any = some-places shown.places (rw shown.spelled at some) in
    record {
      verdict = NamedStuck shown.places;
      form = (any, shown.all, rises);
      spelled = ap (λ w. w ∷ words) is ∙ ap (λ ws. codes "stuck" ∷ ws) shown.spelled;
      same = shown.same;
    }
  where
    some-places : (places : List (List ℕ × ℕ)) → 0 < length (flat_map place_words places)
        → 0 < length places
    some-places [] h = h
    some-places (p ∷ ps) h = omega arith

shown-bare : (names : NameLists) (head : List ℕ) (passed cut : Bool) (read : VerdictRead)
    → (read ≡ NoForm → ⊥) → bytes_eq head (codes "passed") ≡ passed
    → bytes_eq head (codes "cut") ≡ cut
    → (if passed then Is Passed else (if cut then Is Cut else NoForm)) ≡ read
    → Shown names (head ∷ []) read
shown-bare names head true cut read form p q e =
    record {
      verdict = NamedPassed;
      form = tt;
      spelled = ap (λ w. w ∷ []) (same-word head (codes "passed") p);
      same = e;
    }
shown-bare names head false true read form p q e =
    record {
      verdict = NamedCut;
      form = tt;
      spelled = ap (λ w. w ∷ []) (same-word head (codes "cut") q);
      same = e;
    }
shown-bare names head false false read form p q e = absurd (form (sym e))

shown-more : (names : NameLists) (head word : List ℕ) (rest : List (List ℕ)) (stuck : Bool)
    (read : VerdictRead) → (read ≡ NoForm → ⊥) → bytes_eq head (codes "stuck") ≡ stuck
    → (if stuck then stuck_words names 0 [] false (word ∷ rest) else placed_words head
    (first_place names (word ∷ rest))) ≡ read → Shown names (head ∷ word ∷ rest) read
shown-more names head word rest true read form p e =
    shown-places names head (word ∷ rest) read form (same-word head (codes "stuck") p) (omega arith)
    e
shown-more names head word [] false read form p e = absurd (form (sym e))
shown-more names head word (line ∷ rest) false read form p e =
    shown-at names head word line rest (is_name 1 word) (line_number line) read form refl refl e

pub shown : (names : NameLists) (words : List (List ℕ)) (read : VerdictRead) → (read ≡ NoForm → ⊥)
    → verdict_of_words names words ≡ read → Shown names words read
shown names [] read form e = absurd (form (sym e))
shown names (head ∷ []) read form e =
    shown-bare names head (bytes_eq head (codes "passed")) (bytes_eq head (codes "cut")) read form
    refl refl e
shown names (head ∷ word ∷ rest) read form e =
    shown-more names head word rest (bytes_eq head (codes "stuck")) read form refl e
