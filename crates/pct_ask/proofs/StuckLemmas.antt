-- Facts on how a list of blocked threads is read.
use Rattle.std.specs.Prelude.{◌||◌, nat_le, map, decimal, if◌then◌else◌}
use Rattle.std.specs.List.{All, Any, flat_map, cons_option}
use Rattle.std.specs.List.Sorted.{IsStrictlyIncreasing}
use Rattle.std.specs.Option.{is_none}
use Rattle.std.proofs.Common.{◌≡◌, ℕ, ◌+◌, ◌<◌, ◌≤◌, Bool, true, false, List, [], ◌∷◌, ◌++◌, length}
use Rattle.std.proofs.Common.{get_or, zero, suc, Option, Some, None, refl, sym, ◌∙◌, ap, arith}
use Rattle.std.proofs.Common.{append_assoc, append-nil}
use Rattle.std.proofs.lemmas.Bool.Decides.{nat_tests}
use Rattle.std.proofs.lemmas.List.Elements.{All-nil, All-cons, All-head, All-tail}
use Rattle.pct_ask.specs.Words.{is_name}
use Rattle.pct_ask.specs.NameLists.{NameLists, AreNames, place_of}
use Rattle.pct_ask.specs.VerdictText.{IsPlace, IsNobody, place_words, known_threads}
use Rattle.pct_ask.specs.VerdictPieces.{HasName}
use Rattle.pct_ask.specs.VerdictWords.{line_number, stuck_read, stuck_step, stuck_words}
use Rattle.pct_ask.specs.declared.verdict_text.VerdictRead.{VerdictRead}
use Rattle.pct_ask.specs.declared.verdict_text.VerdictRead.TheVariants.{NoForm}
use Rattle.pct_ask.proofs.laws.Names.{place_of-Some, place_of-thread}
use Rattle.pct_ask.proofs.PlaceLemmas.{increasing-cons}
use Rattle.pct_ask.proofs.VerdictWordLemmas.{line_number-decimal, line_number-Some}
use Rattle.pct_ask.proofs.laws.RisingPlaces.{RiseFrom, named_place}

-- what places by names are read as, after some that were read
abbrev pub stuck_places : NameLists → ℕ → List (ℕ × ℕ) → Bool → List (List ℕ × ℕ) → VerdictRead
stuck_places names least blocked unknown [] = stuck_read unknown blocked
stuck_places names least blocked unknown (p ∷ ps) =
    stuck_step true (place_of p.0 names.threads) (Some p.1) least blocked unknown
    (λ l b u. stuck_places names l b u ps)

place-step : (names : NameLists) (thread : Option ℕ) (line least : ℕ) (blocked : List (ℕ × ℕ))
    (unknown : Bool) (words : List (List ℕ)) (ps : List (List ℕ × ℕ))
    → ((l : ℕ) (b : List (ℕ × ℕ)) (u : Bool)
    → stuck_words names l b u words ≡ stuck_places names l b u ps)
    → stuck_step true thread (Some line) least blocked unknown
    (λ l b u. stuck_words names l b u words)
    ≡ stuck_step true thread (Some line) least blocked unknown
    (λ l b u. stuck_places names l b u ps)
place-step names None line least blocked unknown words ps next = next least blocked true
place-step names (Some t) line least blocked unknown words ps next =
    ap (λ (read : VerdictRead). if nat_le least t then read else NoForm)
    (next (t + 1) (blocked ++ (t, line) ∷ []) unknown)

-- words that are places are read as the places
pub stuck_words-places : (names : NameLists) (least : ℕ) (blocked : List (ℕ × ℕ)) (unknown : Bool)
    (places : List (List ℕ × ℕ)) → All IsPlace places
    → stuck_words names least blocked unknown (flat_map place_words places)
    ≡ stuck_places names least blocked unknown places
stuck_words-places names least blocked unknown [] all = refl
stuck_words-places names least blocked unknown (p ∷ ps) all =
    let here : IsPlace p = All-head IsPlace p ps all in
    let others = All-tail IsPlace p ps all in
    rw (here.0, line_number-decimal p.1 (decimal p.1) here.1 refl)
    (place-step names (place_of p.0 names.threads) p.1 least blocked unknown
    (flat_map place_words ps) ps (λ l b u. stuck_words-places names l b u ps others))

-- what is read is of places
pub record AreRead (names : NameLists) (least : ℕ) (blocked : List (ℕ × ℕ)) (unknown : Bool)
    (words : List (List ℕ)) (read : VerdictRead) : Type 0 where
  pub places : List (List ℕ × ℕ)
  pub all : All IsPlace places
  pub spelled : words ≡ flat_map place_words places
  pub same : stuck_places names least blocked unknown places ≡ read

one-more : (names : NameLists) (least : ℕ) (blocked : List (ℕ × ℕ)) (unknown : Bool)
    (name line : List ℕ) (words : List (List ℕ)) (read : VerdictRead) (n least_later : ℕ)
    (blocked_later : List (ℕ × ℕ)) (unknown_later : Bool) → is_name 1 name ≡ true
    → line_number line ≡ Some n → AreRead names least_later blocked_later unknown_later words read
    → ((ps : List (List ℕ × ℕ)) → stuck_places names least blocked unknown ((name, n) ∷ ps)
    ≡ stuck_places names least_later blocked_later unknown_later ps)
    → AreRead names least blocked unknown (name ∷ line ∷ words) read
one-more names least blocked unknown name line words read n least_later blocked_later unknown_later
    lawful number others step =
    let is = line_number-Some n line number in
    record {
      places = (name, n) ∷ others.places;
      all = All-cons IsPlace (name, n) others.places (lawful, is.0) others.all;
      spelled = rw (is.1, others.spelled);
      same = step others.places ∙ others.same;
    }

thread-step : (names : NameLists) (least : ℕ) (blocked : List (ℕ × ℕ)) (unknown : Bool)
    (name line : List ℕ) (words : List (List ℕ)) (read : VerdictRead) (t n : ℕ) (rises : Bool)
    → (read ≡ NoForm → ⊥) → is_name 1 name ≡ true → place_of name names.threads ≡ Some t
    → line_number line ≡ Some n → nat_le least t ≡ rises
    → (if rises then stuck_words names (t + 1) (blocked ++ (t, n) ∷ []) unknown words else NoForm)
    ≡ read → ((l : ℕ) (b : List (ℕ × ℕ)) (u : Bool) → stuck_words names l b u words ≡ read
    → AreRead names l b u words read)
    → AreRead names least blocked unknown (name ∷ line ∷ words) read
thread-step names least blocked unknown name line words read t n false form lawful thread number
    rises e next = absurd (form (sym e))
thread-step names least blocked unknown name line words read t n true form lawful thread number
    rises e next =
    one-more names least blocked unknown name line words read n (t + 1) (blocked ++ (t, n) ∷ [])
    unknown lawful number (next (t + 1) (blocked ++ (t, n) ∷ []) unknown e)
    (λ ps. rw (thread, rises))

read-step : (names : NameLists) (least : ℕ) (blocked : List (ℕ × ℕ)) (unknown : Bool)
    (name line : List ℕ) (words : List (List ℕ)) (read : VerdictRead) (lawful : Bool)
    (thread number : Option ℕ) → (read ≡ NoForm → ⊥) → is_name 1 name ≡ lawful
    → place_of name names.threads ≡ thread → line_number line ≡ number
    → stuck_step lawful thread number least blocked unknown (λ l b u. stuck_words names l b u words)
    ≡ read → ((l : ℕ) (b : List (ℕ × ℕ)) (u : Bool) → stuck_words names l b u words ≡ read
    → AreRead names l b u words read)
    → AreRead names least blocked unknown (name ∷ line ∷ words) read
read-step names least blocked unknown name line words read false thread number form is at spells e
    next = absurd (form (sym e))
read-step names least blocked unknown name line words read true thread None form is at spells e
    next = absurd (form (sym e))
read-step names least blocked unknown name line words read true None (Some n) form is at spells e
    next =
    one-more names least blocked unknown name line words read n least blocked true is spells
    (next least blocked true e) (λ ps. rw at)
read-step names least blocked unknown name line words read true (Some t) (Some n) form is at spells
    e next =
    thread-step names least blocked unknown name line words read t n (nat_le least t) form is at
    spells refl e next

-- what is read as a form is of places
pub stuck_words-read : (names : NameLists) (least : ℕ) (blocked : List (ℕ × ℕ)) (unknown : Bool)
    (words : List (List ℕ)) (read : VerdictRead) → (read ≡ NoForm → ⊥)
    → stuck_words names least blocked unknown words ≡ read
    → AreRead names least blocked unknown words read
stuck_words-read names least blocked unknown [] read form e =
    record { places = []; all = All-nil IsPlace; spelled = refl; same = e }
stuck_words-read names least blocked unknown (name ∷ []) read form e = absurd (form (sym e))
stuck_words-read names least blocked unknown (name ∷ line ∷ words) read form e =
    read-step names least blocked unknown name line words read (is_name 1 name)
    (place_of name names.threads) (line_number line) form refl refl refl e
    (λ l b u later. stuck_words-read names l b u words read form later)

rise-above : (least : ℕ) (xs : List ℕ) → RiseFrom least xs → 0 < length xs → least ≤ get_or xs 0 0
rise-above least [] rise h = absurd (omega arith)
rise-above least (x ∷ xs) rise h = rise.0

pub increasing-RiseFrom : (least : ℕ) (xs : List ℕ) → RiseFrom least xs → IsStrictlyIncreasing xs
increasing-RiseFrom least [] rise = λ k h. absurd (omega arith)
increasing-RiseFrom least (x ∷ xs) rise =
    increasing-cons x xs (λ h. let above = rise-above (x + 1) xs rise.1 h in omega arith)
    (increasing-RiseFrom (x + 1) xs rise.1)

-- the places of those names that are a thread's
abbrev pub known_at : Option ℕ → ℕ → List (ℕ × ℕ) → List (ℕ × ℕ)
known_at None line places = places
known_at (Some t) line places = (t, line) ∷ places

abbrev pub known_places : NameLists → List (List ℕ × ℕ) → List (ℕ × ℕ)
known_places names [] = []
known_places names (p ∷ ps) = known_at (place_of p.0 names.threads) p.1 (known_places names ps)

-- whether some name is no thread's
abbrev pub any_unknown : NameLists → List (List ℕ × ℕ) → Bool
any_unknown names [] = false
any_unknown names (p ∷ ps) = is_none (place_of p.0 names.threads) || any_unknown names ps

or-false : (a : Bool) → (a || false) ≡ a
or-false true = refl
or-false false = refl

or-true : (a : Bool) → (a || true) ≡ true
or-true true = refl
or-true false = refl

places-step : (names : NameLists) (thread : Option ℕ) (line least : ℕ) (blocked : List (ℕ × ℕ))
    (unknown : Bool) (ps : List (List ℕ × ℕ))
    → RiseFrom least (cons_option thread (known_threads names ps))
    → ((l : ℕ) (b : List (ℕ × ℕ)) (u : Bool) → RiseFrom l (known_threads names ps)
    → stuck_places names l b u ps ≡ stuck_read (u || any_unknown names ps)
    (b ++ known_places names ps)) → stuck_step true thread (Some line) least blocked unknown
    (λ l b u. stuck_places names l b u ps)
    ≡ stuck_read (unknown || (is_none thread || any_unknown names ps))
    (blocked ++ known_at thread line (known_places names ps))
places-step names None line least blocked unknown ps rise next =
    rw or-true (next least blocked true rise)
places-step names (Some t) line least blocked unknown ps rise next =
    let test : nat_le least t ≡ true = let low = rise.0 in grind (arith, nat_tests) in
    rw test (next (t + 1) (blocked ++ (t, line) ∷ []) unknown rise.1
    ∙ ap (λ b. stuck_read (unknown || any_unknown names ps) b)
    (append_assoc blocked ((t, line) ∷ []) (known_places names ps)))

-- places whose threads rise are read as what they are
pub stuck_places-rising : (names : NameLists) (least : ℕ) (blocked : List (ℕ × ℕ)) (unknown : Bool)
    (places : List (List ℕ × ℕ)) → RiseFrom least (known_threads names places)
    → stuck_places names least blocked unknown places
    ≡ stuck_read (unknown || any_unknown names places) (blocked ++ known_places names places)
stuck_places-rising names least blocked unknown [] rise = rw (or-false, append-nil)
stuck_places-rising names least blocked unknown (p ∷ ps) rise =
    places-step names (place_of p.0 names.threads) p.1 least blocked unknown ps rise
    (λ l b u later. stuck_places-rising names l b u ps later)

test-step : (names : NameLists) (line t least : ℕ) (blocked : List (ℕ × ℕ)) (unknown : Bool)
    (ps : List (List ℕ × ℕ)) (read : VerdictRead) (rises : Bool) → (read ≡ NoForm → ⊥)
    → nat_le least t ≡ rises → (if rises then stuck_places names (t + 1) (blocked ++ (t, line) ∷ [])
    unknown ps else NoForm) ≡ read → ((l : ℕ) (b : List (ℕ × ℕ)) (u : Bool)
    → stuck_places names l b u ps ≡ read → RiseFrom l (known_threads names ps))
    → (least ≤ t) × RiseFrom (t + 1) (known_threads names ps)
test-step names line t least blocked unknown ps read false form test e next = absurd (form (sym e))
test-step names line t least blocked unknown ps read true form test e next =
    (grind (arith, nat_tests), next (t + 1) (blocked ++ (t, line) ∷ []) unknown e)

rises-step : (names : NameLists) (thread : Option ℕ) (line least : ℕ) (blocked : List (ℕ × ℕ))
    (unknown : Bool) (ps : List (List ℕ × ℕ)) (read : VerdictRead) → (read ≡ NoForm → ⊥)
    → stuck_step true thread (Some line) least blocked unknown
    (λ l b u. stuck_places names l b u ps) ≡ read
    → ((l : ℕ) (b : List (ℕ × ℕ)) (u : Bool) → stuck_places names l b u ps ≡ read
    → RiseFrom l (known_threads names ps))
    → RiseFrom least (cons_option thread (known_threads names ps))
rises-step names None line least blocked unknown ps read form e next = next least blocked true e
rises-step names (Some t) line least blocked unknown ps read form e next =
    test-step names line t least blocked unknown ps read (nat_le least t) form refl e next

-- and only those are
pub stuck_places-form : (names : NameLists) (least : ℕ) (blocked : List (ℕ × ℕ)) (unknown : Bool)
    (places : List (List ℕ × ℕ)) (read : VerdictRead) → (read ≡ NoForm → ⊥)
    → stuck_places names least blocked unknown places ≡ read
    → RiseFrom least (known_threads names places)
stuck_places-form names least blocked unknown [] read form e = tt
stuck_places-form names least blocked unknown (p ∷ ps) read form e =
    rises-step names (place_of p.0 names.threads) p.1 least blocked unknown ps read form e
    (λ l b u later. stuck_places-form names l b u ps read form later)

-- places with the names of threads are those threads' places
pub known-named : (names : NameLists) (places : List (ℕ × ℕ)) → AreNames names
    → All (HasName names) (map (λ (p : ℕ × ℕ). p.0) places)
    → (known_places names (map (named_place names) places) ≡ places)
    × (any_unknown names (map (named_place names) places) ≡ false)
known-named names [] sound all = (refl, refl)
known-named names (p ∷ ps) sound all =
    let here = All-head (HasName names) p.0 (map (λ (q : ℕ × ℕ). q.0) ps) all in
    let others = known-named names ps sound
    (All-tail (HasName names) p.0 (map (λ (q : ℕ × ℕ). q.0) ps) all) in
    let at = place_of-thread names p.0 sound here in
    (rw at (ap (λ qs. p ∷ qs) others.0), rw at others.1)

unknown-step : (names : NameLists) (thread : Option ℕ) (name : List ℕ) (line : ℕ)
    (ps : List (List ℕ × ℕ)) → place_of name names.threads ≡ thread
    → (is_none thread || any_unknown names ps) ≡ false
    → (any_unknown names ps ≡ false → (map (named_place names) (known_places names ps) ≡ ps)
    × All (HasName names) (map (λ (p : ℕ × ℕ). p.0) (known_places names ps)))
    → (map (named_place names) (known_at thread line (known_places names ps)) ≡ (name, line) ∷ ps)
    × All (HasName names) (map (λ (p : ℕ × ℕ). p.0) (known_at thread line (known_places names ps)))
unknown-step names None name line ps at known next = cc
unknown-step names (Some t) name line ps at known next =
    let others = next known in
    let found = place_of-Some name names.threads t at in (
      rw (found.1, others.0),
      All-cons (HasName names) t
          (map (λ (p : ℕ × ℕ). p.0) (known_places names ps)) found.0 others.1,
    )

-- names that are threads' are those of the places that are read
pub named-known : (names : NameLists) (places : List (List ℕ × ℕ))
    → any_unknown names places ≡ false
    → (map (named_place names) (known_places names places) ≡ places)
    × All (HasName names) (map (λ (p : ℕ × ℕ). p.0) (known_places names places))
named-known names [] known = (refl, All-nil (HasName names))
named-known names (p ∷ ps) known =
    unknown-step names (place_of p.0 names.threads) p.0 p.1 ps refl known
    (λ later. named-known names ps later)

any-step : (names : NameLists) (thread : Option ℕ) (name : List ℕ) (ps : List (List ℕ × ℕ))
    → place_of name names.threads ≡ thread → (is_none thread || any_unknown names ps) ≡ true
    → (any_unknown names ps ≡ true → Any (IsNobody names) (map (λ (p : List ℕ × ℕ). p.0) ps))
    → Any (IsNobody names) (name ∷ map (λ (p : List ℕ × ℕ). p.0) ps)
any-step names None name ps at some next = (0, name, omega arith, refl, at)
any-step names (Some t) name ps at some next =
    let later = next some in (suc later.0, later.1, omega (arith, later.2), later.3, later.4)

pub unknown-any : (names : NameLists) (places : List (List ℕ × ℕ)) → any_unknown names places ≡ true
    → Any (IsNobody names) (map (λ (p : List ℕ × ℕ). p.0) places)
unknown-any names [] some = cc
unknown-any names (p ∷ ps) some =
    any-step names (place_of p.0 names.threads) p.0 ps refl some
    (λ later. unknown-any names ps later)

pub any-unknown : (names : NameLists) (places : List (List ℕ × ℕ)) (k : ℕ) (name : List ℕ)
    → k < length (map (λ (p : List ℕ × ℕ). p.0) places)
    → get_or (map (λ (p : List ℕ × ℕ). p.0) places) k name ≡ name → IsNobody names name
    → any_unknown names places ≡ true
any-unknown names [] k name h at none = absurd (omega arith)
any-unknown names (p ∷ ps) zero name h at none =
    let here : place_of p.0 names.threads ≡ None = ap (λ n. place_of n names.threads) at ∙ none in
    rw here
any-unknown names (p ∷ ps) (suc k) name h at none =
    rw (any-unknown names ps k name (omega arith) at none, or-true)
