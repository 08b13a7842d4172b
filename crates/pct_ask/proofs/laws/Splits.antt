-- Where a text is cut at every byte of one value, such as a space or an LF.
use Rattle.std.specs.Prelude.{◌==◌, position, cond}
use Rattle.std.specs.List.{slice_split, position_or_len, onto_first}
use Rattle.std.proofs.Common.{◌≡◌, ℕ, ◌+◌, ◌<◌, ◌≤◌, Bool, true, false, List, [], ◌∷◌, length}
use Rattle.std.proofs.Common.{get_or, take, drop, zero, suc, Some, None, refl, ap, arith, add-one}
use Rattle.std.proofs.lemmas.List.Quantifiers.{position-Some}
use Rattle.pct_ask.proofs.laws.Positions.{not-here, none-left}

-- the parts of a text between these bytes
abbrev pub parts_of : ℕ → List ℕ → List (List ℕ)
parts_of c text = slice_split (λ b. b == c) text

cut-at : (c : ℕ) (text : List ℕ) (i : ℕ) → i < length text → (get_or text i 0 == c) ≡ true
    → ((k : ℕ) → k < i → (get_or text k 0 == c) ≡ false)
    → parts_of c text ≡ take i text ∷ parts_of c (drop (suc i) text)
cut-at c [] i h here before = absurd (omega arith)
cut-at c (b ∷ bs) zero h here before = rw here
cut-at c (b ∷ bs) (suc i) h here before =
    let no : (b == c) ≡ false = before 0 (omega arith) in
    rw no (ap (λ parts. onto_first b parts)
    (cut-at c bs i (omega arith) here (λ k low. before (suc k) (omega arith))))

-- the first part ends at the first such byte
pub parts_of-cut : (c : ℕ) (text : List ℕ) (i : ℕ) → position (λ b. b == c) text ≡ Some i
    → parts_of c text ≡ take i text ∷ parts_of c (drop (i + 1) text)
parts_of-cut c text i at =
    let first = position-Some (λ b. b == c) text i 0 at in
    rw add-one (cut-at c text i first.0 first.1 first.2)

whole : (c : ℕ) (text : List ℕ) → length text ≤ position_or_len (λ b. b == c) text
    → parts_of c text ≡ text ∷ []
whole c [] none = refl
whole c (b ∷ bs) none =
    let here = not-here (b == c) (length bs) (position_or_len (λ x. x == c) bs) none in
    rw here.0 (ap (λ parts. onto_first b parts) (whole c bs here.1))

-- a text with no such byte is one part
pub parts_of-whole : (c : ℕ) (text : List ℕ) → position (λ b. b == c) text ≡ None
    → parts_of c text ≡ text ∷ []
parts_of-whole c text none = whole c text (none-left _ _ none)

first-of : (x : ℕ) (parts : List (List ℕ))
    → (part : List ℕ) × (others : List (List ℕ)) × (onto_first x parts ≡ part ∷ others)
first-of x [] = (x ∷ [], [], refl)
first-of x (part ∷ parts) = (x ∷ part, parts, refl)

first-by : (t : Bool) (x : ℕ) (parts : List (List ℕ))
    → (part : List ℕ) × (others : List (List ℕ))
    × (cond t ([] ∷ parts) (onto_first x parts) ≡ part ∷ others)
first-by true x parts = ([], parts, refl)
first-by false x parts = first-of x parts

-- each text has a first part
pub parts_of-some : (c : ℕ) (text : List ℕ)
    → (part : List ℕ) × (others : List (List ℕ)) × (parts_of c text ≡ part ∷ others)
parts_of-some c [] = ([], [], refl)
parts_of-some c (b ∷ bs) = first-by (b == c) b (parts_of c bs)
