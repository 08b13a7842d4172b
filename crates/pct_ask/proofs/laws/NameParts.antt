-- What a name's letters are, and how many there may be.
use Rattle.std.specs.Prelude.{◌&&◌, not, nat_le}
use Rattle.std.specs.List.{list_all}
use Rattle.std.proofs.Common.{◌≡◌, ℕ, ◌≤◌, Bool, true, false, List, [], ◌∷◌, length, refl, arith}
use Rattle.std.proofs.lemmas.Bool.Decides.{nat_tests}
use Rattle.pct_ask.specs.Characters.{is_letter, is_word_byte}
use Rattle.pct_ask.specs.Words.{is_name, is_among, keywords, registers}

-- a name's first letter, and what follows it
pub record HasNameParts (b : ℕ) (bs : List ℕ) : Type 0 where
  pub letter : is_letter b ≡ true
  pub others : list_all is_word_byte bs ≡ true
  pub few : length bs ≤ 31

first-three : (x y z u v : Bool) → (x && y && z && u && v) ≡ true
    → (x ≡ true) × (y ≡ true) × (z ≡ true)
first-three true true true u v h = (refl, refl, refl)
first-three true true false u v h = absurd cc
first-three true false z u v h = absurd cc
first-three false y z u v h = absurd cc

pub name-parts : (b : ℕ) (bs : List ℕ) → is_name 1 (b ∷ bs) ≡ true → HasNameParts b bs
name-parts b bs h =
    let first = first-three (is_letter b) (list_all is_word_byte bs) (nat_le (length bs) 31)
    (not (is_among (b ∷ bs) (keywords 1))) (not (is_among (b ∷ bs) registers)) h in
    let small = first.2 in
    record { letter = first.0; others = first.1; few = grind (arith, nat_tests) }

pub name-short : (name : List ℕ) → is_name 1 name ≡ true → length name ≤ 32
name-short [] h = omega arith
name-short (b ∷ bs) h = let few = (name-parts b bs h).few in omega arith
