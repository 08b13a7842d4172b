-- When two words are the same.
use Rattle.std.specs.Str.{bytes_eq}
use Rattle.std.proofs.Common.{◌≡◌, ℕ, true, List, refl, sym}
use Rattle.std.proofs.lemmas.Bool.Decides.{same_from_decides, Decides-like}
use Rattle.std.proofs.lemmas.Slice.Eq.{bytes_eq-Decides}

-- words that pass the test are the same word
pub same-word : (word other : List ℕ) → bytes_eq word other ≡ true → word ≡ other
same-word word other e = (bytes_eq-Decides word other).0 e

-- a word passes it against itself
pub bytes_eq-self : (word : List ℕ) → bytes_eq word word ≡ true
bytes_eq-self word = (bytes_eq-Decides word word).1 refl

-- in either order
pub bytes_eq-sym : (a b : List ℕ) → bytes_eq a b ≡ bytes_eq b a
bytes_eq-sym a b =
    same_from_decides (bytes_eq a b) (bytes_eq b a) (bytes_eq-Decides a b)
    (Decides-like (bytes_eq b a) (λ e. sym e) (λ e. sym e) (bytes_eq-Decides b a))
