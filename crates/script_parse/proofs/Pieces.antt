-- How a line's pieces follow from its first bytes.
use Rattle.std.proofs.Common.{◌≡◌, ℕ, zero, suc, true, List, [], ◌∷◌, ◌++◌, drop, take, Option}
use Rattle.std.proofs.Common.{Some, None, inl, inr, refl, sym, ap, ◌∙◌, append_assoc}
use Rattle.std.specs.List.{prefix_len}
use Rattle.std.specs.Option.{option_map}
use Rattle.std.proofs.Math.Numerals.{one-add}
use Rattle.std.proofs.lemmas.Bool.{cases_Bool}
use Rattle.pct_ask.specs.Characters.{is_word_byte}
use Rattle.script_tree.proofs.laws.WordPieces.{piece_before-longer, word_alone, word_then}
use Rattle.script_parse.specs.Cutting.{BeginsWithPiece}
use Rattle.pct_ask.specs.Tokens.{Token, piece_before, token_pieces, token_of, tokens_of_pieces}
use Rattle.pct_ask.specs.Tokens.{tokens_of}

-- a run of letters and digits is one piece
pub pieces_of-word : (b : ℕ) (bs : List ℕ) (n : ℕ) → is_word_byte b ≡ true
    → n ≡ prefix_len is_word_byte bs → token_pieces (b ∷ bs)
    ≡ piece_before (b ∷ take n bs) (token_pieces (drop n bs))
pieces_of-word b [] n h e = word_alone b h ∙ rw e refl
pieces_of-word b (c ∷ bs) n h e =
    word_then b c bs h ∙
    elim (cases_Bool (is_word_byte c)) [
      | inl w ↦ rw (e, w, one-add) (rw (pieces_of-word c bs (prefix_len is_word_byte bs) w refl)
          (piece_before-longer b _ _))
      | inr w ↦ rw (e, w) refl
    ]

-- tokens at the front of those of the rest
abbrev pub with_front : List Token → Option (List Token) → Option (List Token)
with_front front tokens = option_map (λ others. front ++ others) tokens

pub with_front-push : (front : List Token) (token : Token) (tokens : Option (List Token))
    → with_front front (option_map (λ others. token ∷ others) tokens)
    ≡ with_front (front ++ token ∷ []) tokens
with_front-push front token None = refl
with_front-push front token (Some tokens) =
    ap (λ (ts : List Token). Some ts) (sym (append_assoc front (token ∷ []) tokens))

pub piece_at : (n : ℕ) (text : List ℕ) → (n ≡ 0 → ⊥) → BeginsWithPiece n text
    → token_pieces text ≡ piece_before (take n text) (token_pieces (drop n text))
piece_at zero text some h = absurd (some refl)
piece_at (suc n) text some h = h

no_token : (piece : List ℕ) (pieces : Option (List (List ℕ))) → token_of piece ≡ None
    → tokens_of_pieces (piece_before piece pieces) ≡ None
no_token piece None h = refl
no_token piece (Some pieces) h = rw h refl

one_token : (piece : List ℕ) (pieces : Option (List (List ℕ))) (token : Token)
    → token_of piece ≡ Some token → tokens_of_pieces (piece_before piece pieces)
    ≡ option_map (λ tokens. token ∷ tokens) (tokens_of_pieces pieces)
one_token piece None token h = refl
one_token piece (Some pieces) token h = rw h refl

-- what a line's next piece is, where n bytes of the text that it begins with after its blanks are
-- one
pub record IsCut (line rest text piece others : List ℕ) (n : ℕ) : Type 0 where
  pub blanks : token_pieces rest ≡ token_pieces line
  pub plain : rest ≡ text
  pub begins : BeginsWithPiece n text
  pub some : n ≡ 0 → ⊥
  pub front : piece ≡ take n rest
  pub back : others ≡ drop n rest

piece_first : {line rest text piece others : List ℕ} {n : ℕ} → IsCut line rest text piece others n
    → token_pieces line ≡ piece_before piece (token_pieces others)
piece_first {line} {rest} {text} {piece} {others} {n} cut =
    let e : token_pieces rest ≡ piece_before (take n rest) (token_pieces (drop n rest)) =
    piece_at n rest cut.some (rw cut.plain cut.begins) in
    sym cut.blanks ∙ e ∙ rw (cut.front, cut.back) refl

pub tokens_of-none : {line rest text piece others : List ℕ} {n : ℕ}
    → IsCut line rest text piece others n → token_of piece ≡ None → tokens_of line ≡ None
tokens_of-none {piece = piece} {others = others} cut h =
    ap tokens_of_pieces (piece_first cut) ∙ no_token piece (token_pieces others) h

pub tokens_of-some : {line rest text piece others : List ℕ} {n : ℕ} (token : Token)
    → IsCut line rest text piece others n → token_of piece ≡ Some token
    → tokens_of line ≡ option_map (λ tokens. token ∷ tokens) (tokens_of others)
tokens_of-some {piece = piece} {others = others} token cut h =
    ap tokens_of_pieces (piece_first cut) ∙ one_token piece (token_pieces others) token h
