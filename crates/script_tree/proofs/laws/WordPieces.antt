-- How a line's pieces begin where it begins with a letter or a digit.
use Rattle.std.proofs.Common.{◌≡◌, ℕ, true, false, cond, eqb, List, [], ◌∷◌, Option, Some, None}
use Rattle.std.proofs.Common.{refl, arith}
use Rattle.std.specs.Option.{option_map}
use Rattle.std.proofs.lemmas.Bool.Decides.{nat_tests}
use Rattle.pct_ask.specs.Characters.{is_blank, is_word_byte}
use Rattle.pct_ask.specs.Tokens.{piece_before, onto_first_piece, token_pieces}

-- a byte before the first piece makes it longer
pub piece_before-longer : (b : ℕ) (piece : List ℕ) (pieces : Option (List (List ℕ)))
    → option_map (onto_first_piece b) (piece_before piece pieces)
    ≡ piece_before (b ∷ piece) pieces
piece_before-longer b piece None = refl
piece_before-longer b piece (Some pieces) = refl

-- what a letter or a digit isn't
pub word_byte_is_plain : (b : ℕ) → is_word_byte b ≡ true
    → (eqb b 35 ≡ false) × (is_blank b ≡ false)
word_byte_is_plain b h = grind (arith, nat_tests)

pub word_alone : (b : ℕ) → is_word_byte b ≡ true → token_pieces (b ∷ []) ≡ Some ((b ∷ []) ∷ [])
word_alone b h = let p = word_byte_is_plain b h in rw (p.0, p.1, h) refl

pub word_then : (b c : ℕ) (bs : List ℕ) → is_word_byte b ≡ true
    → token_pieces (b ∷ c ∷ bs)
    ≡ cond (is_word_byte c) (option_map (onto_first_piece b) (token_pieces (c ∷ bs)))
    (piece_before (b ∷ []) (token_pieces (c ∷ bs)))
word_then b c bs h = let p = word_byte_is_plain b h in rw (p.0, p.1, h) refl
