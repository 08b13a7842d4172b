-- A line as tokens (this project).
use Rattle.std.specs.Prelude.{ℕ, Bool, ◌||◌, ◌&&◌, ◌==◌, nat_le, if◌then◌else◌, List, [], ◌∷◌}
use Rattle.std.specs.Prelude.{length, Option, Some, None}
use Rattle.std.specs.List.{list_all}
use Rattle.std.specs.Option.{option_map}
use Rattle.pct_ask.specs.Characters.{is_blank, is_digit, is_letter, is_word_byte}

-- a piece of a line by its kind, with its bytes: a word, a number or a symbol
pub data Token : Type 0 where
  Word : (letters : List ℕ) → Token
  Number : (digits : List ℕ) → Token
  Symbol : (signs : List ℕ) → Token

-- `||` `&&` `==` `!=` `<=` `>=`
abbrev pub is_long_symbol : ℕ → ℕ → Bool
is_long_symbol a b =
    (a == 124 && b == 124)
    || (a == 38 && b == 38)
    || (b == 61 && (a == 61 || a == 33 || a == 60 || a == 62))

-- `<` `>` `+` `-` `*` `/` `%` `!` `(` `)` `,` `=`
abbrev pub is_short_symbol : ℕ → Bool
is_short_symbol a =
    a == 60 || a == 62 || a == 43 || a == 45 || a == 42 || a == 47 || a == 37 || a == 33 || a == 40
    || a == 41 || a == 44 || a == 61

-- one more piece at the front
abbrev pub piece_before : List ℕ → Option (List (List ℕ)) → Option (List (List ℕ))
piece_before piece pieces = option_map (λ others. piece ∷ others) pieces

-- one more byte at the front of the first piece
abbrev pub onto_first_piece : ℕ → List (List ℕ) → List (List ℕ)
onto_first_piece b [] = (b ∷ []) ∷ []
onto_first_piece b (piece ∷ pieces) = (b ∷ piece) ∷ pieces

-- The pieces of a line up to a `#`: runs of letters and digits taken as long as they go, and
-- symbols, of which the longer one is taken. Space, tab and CR separate them. None where a byte
-- begins no piece.
abbrev pub token_pieces : List ℕ → Option (List (List ℕ))
token_pieces [] = Some []
token_pieces (a ∷ []) =
    if a == 35 || is_blank a then Some []
    else (if is_word_byte a || is_short_symbol a then Some ((a ∷ []) ∷ []) else None)
token_pieces (a ∷ b ∷ bs) =
    if a == 35 then Some []
    else (if is_blank a then token_pieces (b ∷ bs)
    else (if is_word_byte a
    then (if is_word_byte b then option_map (onto_first_piece a) (token_pieces (b ∷ bs))
    else piece_before (a ∷ []) (token_pieces (b ∷ bs)))
    else (if is_long_symbol a b then piece_before (a ∷ b ∷ []) (token_pieces bs)
    else (if is_short_symbol a then piece_before (a ∷ []) (token_pieces (b ∷ bs)) else None))))

-- What a piece is: a word is a letter followed by letters and digits, 32 at most; a number is
-- digits alone.
abbrev pub token_of : List ℕ → Option Token
token_of [] = None
token_of (b ∷ bs) =
    if is_letter b then (if nat_le (length bs) 31 then Some (Word (b ∷ bs)) else None)
    else (if is_digit b then (if list_all is_digit bs then Some (Number (b ∷ bs)) else None)
    else Some (Symbol (b ∷ bs)))

-- one more token at the front, where there is one
abbrev pub token_before : Option Token → Option (List Token) → Option (List Token)
token_before None tokens = None
token_before (Some token) tokens = option_map (λ others. token ∷ others) tokens

-- the token of each piece; None where some piece is no token
abbrev pub tokens_from : List (List ℕ) → Option (List Token)
tokens_from [] = Some []
tokens_from (piece ∷ pieces) = token_before (token_of piece) (tokens_from pieces)

-- the same of the pieces of a line, where it could be cut into pieces
abbrev pub tokens_of_pieces : Option (List (List ℕ)) → Option (List Token)
tokens_of_pieces None = None
tokens_of_pieces (Some pieces) = tokens_from pieces

-- The tokens of a line. None where it can't be cut into tokens.
abbrev pub tokens_of : List ℕ → Option (List Token)
tokens_of line = tokens_of_pieces (token_pieces line)
