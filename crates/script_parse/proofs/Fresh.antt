-- Names that are new where they are declared, and stand at one place.
use Rattle.std.proofs.Common.{◌≡◌, ℕ, zero, suc, ◌<◌, true, false, get_or, List, [], ◌∷◌, ◌++◌}
use Rattle.std.proofs.Common.{length, Some, refl, sym, ap, ◌∙◌, arith}
use Rattle.std.specs.Prelude.{not}
use Rattle.std.specs.List.{All, prefix_len}
use Rattle.std.specs.Str.{bytes_eq}
use Rattle.std.proofs.Math.Numerals.{one-add}
use Rattle.std.proofs.lemmas.Bool.{lt-ltb, or_parts, or_from}
use Rattle.std.proofs.lemmas.List.Elements.{All-nil, All-cons, All-head, All-tail}
use Rattle.std.proofs.lemmas.List.Folds.{list_any-append}
use Rattle.pct_ask.specs.Words.{is_name, is_among}
use Rattle.pct_ask.specs.NameLists.{AreDistinct, place_of}
use Rattle.pct_ask.proofs.laws.SameWords.{bytes_eq-sym, bytes_eq-self}

-- a name by the language's first version
abbrev pub IsLawful : List ℕ → Type 0
IsLawful name = is_name 1 name ≡ true

pub among_parts : (name : List ℕ) (xs ys : List (List ℕ)) → is_among name (xs ++ ys) ≡ false
    → (is_among name xs ≡ false) × (is_among name ys ≡ false)
among_parts name xs ys h =
    or_parts (is_among name xs) (is_among name ys) (sym (list_any-append (bytes_eq name) xs ys) ∙ h)

pub among-append : (name : List ℕ) (xs ys : List (List ℕ)) → is_among name xs ≡ false
    → is_among name ys ≡ false → is_among name (xs ++ ys) ≡ false
among-append name xs ys p q =
    list_any-append (bytes_eq name) xs ys ∙ or_from (is_among name xs) (is_among name ys) p q

-- a name of a list without doubles is neither before its place nor behind it
pub apart : (xs ys : List (List ℕ)) (name : List ℕ) → AreDistinct (xs ++ name ∷ ys)
    → (is_among name xs ≡ false) × (is_among name ys ≡ false)
apart [] ys name h = (refl, h.0)
apart (x ∷ xs) ys name h =
    let others = among_parts x xs (name ∷ ys) h.0 in
    let differs : bytes_eq name x ≡ false =
    bytes_eq-sym name x ∙ (or_parts (bytes_eq x name) (is_among x ys) others.1).0 in
    let rest = apart xs ys name h.1 in
    (or_from (bytes_eq name x) (is_among name xs) differs rest.0, rest.1)

pub distinct_back : (xs ys : List (List ℕ)) → AreDistinct (xs ++ ys) → AreDistinct ys
distinct_back [] ys h = h
distinct_back (x ∷ xs) ys h = distinct_back xs ys h.1

pub all_back : (P : List ℕ → Type 0) (xs ys : List (List ℕ)) → All P (xs ++ ys) → All P ys
all_back P [] ys h = h
all_back P (x ∷ xs) ys h = all_back P xs ys (All-tail P x (xs ++ ys) h)

pub all_front : (P : List ℕ → Type 0) (xs ys : List (List ℕ)) → All P (xs ++ ys) → All P xs
all_front P [] ys h = All-nil P
all_front P (x ∷ xs) ys h =
    All-cons P x xs (All-head P x (xs ++ ys) h) (all_front P xs ys (All-tail P x (xs ++ ys) h))

other_at : (name : List ℕ) (names : List (List ℕ)) (k : ℕ) → is_among name names ≡ false
    → k < length names → bytes_eq name (get_or names k []) ≡ false
other_at name [] k h few = absurd (omega arith)
other_at name (n ∷ ns) zero h few = (or_parts (bytes_eq name n) (is_among name ns) h).0
other_at name (n ∷ ns) (suc k) h few =
    other_at name ns k (or_parts (bytes_eq name n) (is_among name ns) h).1 (omega arith)

first_at : (names : List (List ℕ)) (k : ℕ) → AreDistinct names → k < length names
    → prefix_len (λ n. not (bytes_eq (get_or names k []) n)) names ≡ k
first_at [] k h few = absurd (omega arith)
first_at (n ∷ ns) zero h few = rw (bytes_eq-self n) refl
first_at (n ∷ ns) (suc k) h few =
    let differs : bytes_eq (get_or ns k []) n ≡ false =
    bytes_eq-sym (get_or ns k []) n ∙ other_at n ns k h.0 (omega arith) in
    rw (differs, one-add) (ap (λ (x : ℕ). suc x) (first_at ns k h.1 (omega arith)))

-- a name stands where it stands
pub place_at : (names : List (List ℕ)) (k : ℕ) → AreDistinct names → k < length names
    → place_of (get_or names k []) names ≡ Some k
place_at names k h few = rw (first_at names k h few, lt-ltb k (length names) few) refl
