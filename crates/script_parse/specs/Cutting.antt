-- What is known while a line is cut into tokens.
use Rattle.std.specs.Prelude.{◌≡◌, ℕ, zero, suc, ◌<◌, List, [], ◌∷◌, length, take, drop, false}
use Rattle.std.specs.Prelude.{Some, None}
use Rattle.std.specs.Option.{option_map}
use Rattle.pct_ask.specs.Characters.{is_blank}
use Rattle.pct_ask.specs.Tokens.{piece_before, token_pieces, tokens_of}
use Rattle.script_parse.specs.Seen.{seen}
use Rattle.script_parse.specs.declared.token.NextToken.{NextToken}
use Rattle.script_parse.specs.declared.token.NextToken.TheVariants as next

-- the text begins with no blank
abbrev pub BeginsPlain : List ℕ → Type 0
BeginsPlain [] = Unit {0}
BeginsPlain (b ∷ bs) = is_blank b ≡ false

-- the text begins with a piece of n bytes, or with none where n is 0
abbrev pub BeginsWithPiece : ℕ → List ℕ → Type 0
BeginsWithPiece zero text = token_pieces text ≡ None
BeginsWithPiece (suc n) text =
    token_pieces text ≡ piece_before (take (suc n) text) (token_pieces (drop (suc n) text))

-- what stands next in a line
abbrev pub IsNext : NextToken → List ℕ → Type 0
IsNext next.End line = tokens_of line ≡ Some []
IsNext next.Bad line = tokens_of line ≡ None
IsNext (next.Token token others) line =
    (tokens_of line ≡ option_map (λ tokens. seen token ∷ tokens) (tokens_of others.now))
    × (length others.now < length line)
