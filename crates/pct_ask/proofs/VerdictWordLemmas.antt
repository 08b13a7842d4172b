-- Facts on how the words of a verdict's text are read.
use Rattle.std.specs.Prelude.{nat_le, codes, decimal, if◌then◌else◌}
use Rattle.std.specs.Str.{bytes_eq}
use Rattle.std.proofs.Common.{◌≡◌, ℕ, ◌+◌, ◌<◌, ◌≤◌, Bool, true, false, List, [], ◌∷◌, ◌++◌, Bor}
use Rattle.std.proofs.Common.{Option, Some, None, refl, sym, ◌∙◌, ap, arith}
use Rattle.std.proofs.lemmas.Bool.Decides.{nat_tests}
use Rattle.pct_ask.specs.Words.{is_name}
use Rattle.pct_ask.specs.NameLists.{NameLists, AreNames, place_of}
use Rattle.pct_ask.specs.declared.names.NameKind.TheVariants.{Thread}
use Rattle.std.specs.Option.{IfSome, is_some}
use Rattle.std.specs.List.{All}
use Rattle.std.proofs.lemmas.List.Elements.{All-push, All-weaker}
use Rattle.std.proofs.lemmas.List.Quantifiers.{position-Some}
use Rattle.pct_ask.specs.VerdictText.{IsLine}
use Rattle.pct_ask.specs.VerdictWords.{words_of, words_after, line_number, place_by, stuck_step}
use Rattle.pct_ask.specs.VerdictWords.{first_place, placed_kind, placed_words, stuck_words}
use Rattle.pct_ask.specs.VerdictWords.{verdict_of_words}
use Rattle.pct_ask.specs.declared.verdict_text.VerdictRead.{VerdictRead}
use Rattle.pct_ask.specs.declared.verdict_text.VerdictRead.TheVariants.{NoForm}
use Rattle.pct_ask.proofs.laws.Splits.{parts_of-some}
use Rattle.pct_ask.proofs.laws.Decimals.{number_in-decimal, number_in-Some}

-- a line's decimal is read as the line
pub line_number-decimal : (line : ℕ) (word : List ℕ) → IsLine line → word ≡ decimal line
    → line_number word ≡ Some line
line_number-decimal line word range is =
    number_in-decimal 1 4096 line word range.0 range.1 (omega arith) is

-- and only that
pub line_number-Some : (line : ℕ) (word : List ℕ) → line_number word ≡ Some line
    → IsLine line × (word ≡ decimal line)
line_number-Some line word h =
    let k = number_in-Some 1 4096 line word h in ((k.0, k.1), k.2)

-- two words or more after a place make no kind
pub placed_kind-longer : (head word text : List ℕ) → placed_kind head (word ∷ words_of text) ≡ None
placed_kind-longer head word text = let more = parts_of-some 32 text in rw more.2

-- what more words than one are read as
pub verdict_of_words-more : (names : NameLists) (head text : List ℕ)
    → verdict_of_words names (head ∷ words_of text)
    ≡ (if bytes_eq head (codes "stuck") then stuck_words names 0 [] false (words_of text) else
    placed_words head (first_place names (words_of text)))
verdict_of_words-more names head text = let more = parts_of-some 32 text in rw more.2

-- a thread's place is below 64
pub few_threads : (names : NameLists) (name : List ℕ) (thread : Option ℕ) → AreNames names
    → thread ≡ place_of name names.threads → IfSome thread (λ t. t < 64)
few_threads names name None sound is = tt
few_threads names name (Some t) sound is =
    let found = position-Some (bytes_eq name) names.threads t [] (sym is) in
    let few = sound.few Thread in
    omega (arith, found.0)

step-none : (lawful : Bool) (thread line : Option ℕ) (rest : List (List ℕ)) (least : ℕ)
    (blocked : List (ℕ × ℕ)) (unknown : Bool) (next : ℕ → List (ℕ × ℕ) → Bool → VerdictRead)
    → place_by lawful thread line rest ≡ None
    → stuck_step lawful thread line least blocked unknown next ≡ NoForm
step-none false thread line rest least blocked unknown next h = refl
step-none true thread None rest least blocked unknown next h = refl
step-none true thread (Some n) rest least blocked unknown next h = cc

none-at : (names : NameLists) (word : List ℕ) (words : List (List ℕ)) (least : ℕ)
    (blocked : List (ℕ × ℕ)) (unknown : Bool) → first_place names (word ∷ words) ≡ None
    → stuck_words names least blocked unknown (word ∷ words) ≡ NoForm
none-at names name [] least blocked unknown h = refl
none-at names name (line ∷ rest) least blocked unknown h =
    step-none (is_name 1 name) (place_of name names.threads) (line_number line) rest least blocked
    unknown (λ l b u. stuck_words names l b u rest) h

-- where no place is at the front, there is no list of blocked threads
pub stuck_words-none : (names : NameLists) (text : List ℕ) (least : ℕ) (blocked : List (ℕ × ℕ))
    (unknown : Bool) → first_place names (words_of text) ≡ None
    → stuck_words names least blocked unknown (words_of text) ≡ NoForm
stuck_words-none names text least blocked unknown h =
    let some = parts_of-some 32 text in
    rw some.2 (none-at names some.0 some.1 least blocked unknown (rw some.2 at h))

step-some : (lawful : Bool) (t l : Option ℕ) (r : List (List ℕ)) (thread : Option ℕ) (line : ℕ)
    (rest : List (List ℕ)) (least : ℕ) (blocked : List (ℕ × ℕ)) (unknown : Bool)
    (next : List (List ℕ) → ℕ → List (ℕ × ℕ) → Bool → VerdictRead)
    → place_by lawful t l r ≡ Some (thread, line, rest)
    → stuck_step lawful t l least blocked unknown (next r)
    ≡ stuck_step true thread (Some line) least blocked unknown (next rest)
step-some false t l r thread line rest least blocked unknown next h = cc
step-some true t None r thread line rest least blocked unknown next h = cc
step-some true t (Some n) r thread line rest least blocked unknown next h =
    let same : ◌≡◌ {A = Option ℕ × ℕ × List (List ℕ)} (t, n, r) (thread, line, rest) = cc in
    let F : Option ℕ × ℕ × List (List ℕ) → VerdictRead =
    λ p. stuck_step true p.0 (Some p.1) least blocked unknown (next p.2) in
    ap F same

-- a place at the front, and then the other words
pub stuck_words-some : (names : NameLists) (words : List (List ℕ)) (thread : Option ℕ) (line : ℕ)
    (rest : List (List ℕ)) (least : ℕ) (blocked : List (ℕ × ℕ)) (unknown : Bool)
    → first_place names words ≡ Some (thread, line, rest)
    → stuck_words names least blocked unknown words
    ≡ stuck_step true thread (Some line) least blocked unknown
    (λ l b u. stuck_words names l b u rest)
stuck_words-some names [] thread line rest least blocked unknown h = cc
stuck_words-some names (name ∷ []) thread line rest least blocked unknown h = cc
stuck_words-some names (name ∷ word ∷ others) thread line rest least blocked unknown h =
    step-some (is_name 1 name) (place_of name names.threads) (line_number word) others thread line
    rest least blocked unknown (λ words l b u. stuck_words names l b u words) h

-- the facts of `read_kind`, where something follows the word
pub kind_of-longer : (head : List ℕ) (after : Option (Bor (List ℕ))) (rest : Bor (List ℕ))
    (word : List ℕ) (end : Option (Bor (List ℕ))) → after ≡ Some rest
    → words_of rest.now ≡ word ∷ words_after end → is_some end ≡ true
    → None ≡ placed_kind head (words_after after)
kind_of-longer head after rest word None e words more = cc
kind_of-longer head after rest word (Some text) e words more =
    rw (e, words) (sym (placed_kind-longer head word text.now))

-- the facts of `read_words`, by its first word
pub read-stuck : (names : NameLists) (text head : List ℕ) (rest : Bor (List ℕ))
    (after : Option (Bor (List ℕ))) → after ≡ Some rest → words_of text ≡ head ∷ words_after after
    → bytes_eq head (codes "stuck") ≡ true
    → verdict_of_words names (words_of text) ≡ stuck_words names 0 [] false (words_of rest.now)
read-stuck names text head rest after e words same =
    ap (verdict_of_words names) (words ∙ ap (λ a. head ∷ words_after a) e)
    ∙ verdict_of_words-more names head rest.now
    ∙ ap (λ b. if b then stuck_words names 0 [] false (words_of rest.now) else placed_words head
    (first_place names (words_of rest.now))) same

pub read-placed : (names : NameLists) (text head : List ℕ) (rest : Bor (List ℕ))
    (after : Option (Bor (List ℕ))) → after ≡ Some rest → words_of text ≡ head ∷ words_after after
    → bytes_eq head (codes "stuck") ≡ false
    → verdict_of_words names (words_of text)
    ≡ placed_words head (first_place names (words_of rest.now))
read-placed names text head rest after e words other =
    ap (verdict_of_words names) (words ∙ ap (λ a. head ∷ words_after a) e)
    ∙ verdict_of_words-more names head rest.now
    ∙ ap (λ b. if b then stuck_words names 0 [] false (words_of rest.now) else placed_words head
    (first_place names (words_of rest.now))) other

-- the facts of `read_stuck`, by the place that comes first
pub stuck-at_none : (names : NameLists) (text : Bor (List ℕ)) (after : Option (Bor (List ℕ)))
    (least : ℕ) (blocked : List (ℕ × ℕ)) (unknown : Bool) → after ≡ Some text
    → first_place names (words_of text.now) ≡ None
    → stuck_words names least blocked unknown (words_after after) ≡ NoForm
stuck-at_none names text after least blocked unknown e none =
    rw e (stuck_words-none names text.now least blocked unknown none)

pub stuck-at_low : (names : NameLists) (text : Bor (List ℕ)) (after : Option (Bor (List ℕ)))
    (least : ℕ) (blocked : List (ℕ × ℕ)) (unknown : Bool) (known : Option ℕ) (thread line : ℕ)
    (rest : List (List ℕ)) → after ≡ Some text
    → first_place names (words_of text.now) ≡ Some (known, line, rest) → known ≡ Some thread
    → thread < least → stuck_words names least blocked unknown (words_after after) ≡ NoForm
stuck-at_low names text after least blocked unknown known thread line rest e place is low =
    let test : nat_le least thread ≡ false = grind (arith, nat_tests) in
    rw (
      e,
      stuck_words-some names (words_of text.now) known line rest least blocked unknown place,
      is,
      test,
    )

pub stuck-at_unknown : (names : NameLists) (text : Bor (List ℕ)) (after : Option (Bor (List ℕ)))
    (least : ℕ) (blocked : List (ℕ × ℕ)) (unknown : Bool) (known : Option ℕ) (line : ℕ)
    (rest : List (List ℕ)) → after ≡ Some text
    → first_place names (words_of text.now) ≡ Some (known, line, rest) → known ≡ None
    → stuck_words names least blocked unknown (words_after after)
    ≡ stuck_words names least blocked true rest
stuck-at_unknown names text after least blocked unknown known line rest e place is =
    rw (
      e,
      stuck_words-some names (words_of text.now) known line rest least blocked unknown place,
      is,
    )

pub stuck-at_thread : (names : NameLists) (text : Bor (List ℕ)) (after : Option (Bor (List ℕ)))
    (least : ℕ) (blocked : List (ℕ × ℕ)) (unknown : Bool) (known : Option ℕ) (thread line : ℕ)
    (rest : List (List ℕ)) → after ≡ Some text
    → first_place names (words_of text.now) ≡ Some (known, line, rest) → known ≡ Some thread
    → least ≤ thread → stuck_words names least blocked unknown (words_after after)
    ≡ stuck_words names (thread + 1) (blocked ++ (thread, line) ∷ []) unknown rest
stuck-at_thread names text after least blocked unknown known thread line rest e place is high =
    let test : nat_le least thread ≡ true = grind (arith, nat_tests) in
    rw (
      e,
      stuck_words-some names (words_of text.now) known line rest least blocked unknown place,
      is,
      test,
    )

-- the bound after one more place
pub below-push : (least thread line : ℕ) (blocked : List (ℕ × ℕ)) → least ≤ thread
    → All (λ (place : ℕ × ℕ). place.0 < least) blocked
    → All (λ (place : ℕ × ℕ). place.0 < thread + 1) (blocked ++ (thread, line) ∷ [])
below-push least thread line blocked h below =
    All-push (λ (place : ℕ × ℕ). place.0 < thread + 1) blocked (thread, line)
    (All-weaker (λ (place : ℕ × ℕ). place.0 < least) (λ (place : ℕ × ℕ). place.0 < thread + 1)
    (λ place low. omega arith) blocked below) (omega arith)

pub few-more : (known : Option ℕ) (thread : ℕ) → known ≡ Some thread → IfSome known (λ t. t < 64)
    → thread + 1 ≤ 64
few-more known thread is few =
    let low : IfSome (Some thread) (λ (t : ℕ). t < 64) = rw is at few in
    omega (arith, low)
