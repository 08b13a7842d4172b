-- How a printed line is cut into its tokens.
use Rattle.std.proofs.Common.{◌≡◌, ℕ, ◌<◌, Bool, true, false, not, eqb, List, [], ◌∷◌, ◌++◌, length}
use Rattle.std.proofs.Common.{Option, Some, None, refl, sym, ap, ◌∙◌, append_assoc, arith}
use Rattle.std.specs.Prelude.{◌&&◌, nat_le}
use Rattle.std.specs.List.{list_all}
use Rattle.std.specs.Option.{option_map}
use Rattle.std.proofs.lemmas.List.{append-nil}
use Rattle.std.proofs.lemmas.Bool.{and_parts, and_from, not-true}
use Rattle.std.proofs.lemmas.Bool.Decides.{nat_tests}
use Rattle.pct_ask.specs.Characters.{is_letter, is_digit, is_word_byte}
use Rattle.pct_ask.specs.Words.{is_word}
use Rattle.pct_ask.specs.Tokens.{Token, Word, Number, Symbol, piece_before, onto_first_piece}
use Rattle.pct_ask.specs.Tokens.{token_pieces, token_of, tokens_of_pieces, tokens_of}
use Rattle.script_tree.proofs.laws.Conjunctions.{all-append}
use Rattle.script_tree.proofs.laws.PlainLines.{is_plain}
use Rattle.script_tree.proofs.laws.WordPieces.{piece_before-longer, word_alone, word_then}

-- what may follow a word: nothing, a space, a `)` or a comma
pub data Break : List ℕ → Type 0 where
  ends : Break []
  space : (rest : List ℕ) → Break (32 ∷ rest)
  closes : (rest : List ℕ) → Break (41 ∷ rest)
  comma : (rest : List ℕ) → Break (44 ∷ rest)

-- tokens at the front of those of the rest
abbrev pub with_front : List Token → Option (List Token) → Option (List Token)
with_front front tokens = option_map (λ others. front ++ others) tokens

-- The text is cut into these tokens, whatever follows after a break.
pub record IsCut (text : List ℕ) (tokens : List Token) : Type 0 where
  pub plain : list_all is_plain text ≡ true
  pub cuts : (rest : List ℕ) → Break rest
      → tokens_of (text ++ rest) ≡ with_front tokens (tokens_of rest)

pub with_front-twice : (a b : List Token) (tokens : Option (List Token))
    → with_front a (with_front b tokens) ≡ with_front (a ++ b) tokens
with_front-twice a b None = refl
with_front-twice a b (Some tokens) =
    ap (λ (ts : List Token). Some ts) (sym (append_assoc a b tokens))

-- ---- pieces

last_byte : (b : ℕ) (rest : List ℕ) → is_word_byte b ≡ true → Break rest
    → token_pieces (b ∷ rest) ≡ piece_before (b ∷ []) (token_pieces rest)
last_byte b _ h ends = word_alone b h
last_byte b _ h (space rest) = word_then b 32 rest h
last_byte b _ h (closes rest) = word_then b 41 rest h
last_byte b _ h (comma rest) = word_then b 44 rest h

-- a run of letters and digits is one piece
run : (b : ℕ) (bs rest : List ℕ) → is_word_byte b ≡ true → list_all is_word_byte bs ≡ true
    → Break rest → token_pieces (b ∷ (bs ++ rest)) ≡ piece_before (b ∷ bs) (token_pieces rest)
run b [] rest h hs br = last_byte b rest h br
run b (c ∷ bs) rest h hs br =
    let both = and_parts (is_word_byte c) (list_all is_word_byte bs) hs in
    word_then b c (bs ++ rest) h ∙ rw both.0
    (ap (option_map (onto_first_piece b)) (run c bs rest both.0 both.1 br)
    ∙ piece_before-longer b (c ∷ bs) (token_pieces rest))

-- ---- tokens

pub one_token : (piece : List ℕ) (pieces : Option (List (List ℕ))) (token : Token)
    → token_of piece ≡ Some token → tokens_of_pieces (piece_before piece pieces)
    ≡ with_front (token ∷ []) (tokens_of_pieces pieces)
one_token piece None token h = refl
one_token piece (Some pieces) token h = rw h refl

letter_is_word_byte : (b : ℕ) → is_letter b ≡ true → is_word_byte b ≡ true
letter_is_word_byte b h = grind (arith, nat_tests)

digit_is_word_byte : (b : ℕ) → is_digit b ≡ true → is_word_byte b ≡ true
digit_is_word_byte b h = grind (arith, nat_tests)

digit_is_no_letter : (b : ℕ) → is_digit b ≡ true → is_letter b ≡ false
digit_is_no_letter b h = grind (arith, nat_tests)

word_byte_is_shown : (b : ℕ) → is_word_byte b ≡ true → is_plain b ≡ true
word_byte_is_shown b h = grind (arith, nat_tests)

bytes_are_shown : (bs : List ℕ) → list_all is_word_byte bs ≡ true → list_all is_plain bs ≡ true
bytes_are_shown [] h = refl
bytes_are_shown (b ∷ bs) h =
    let both = and_parts (is_word_byte b) (list_all is_word_byte bs) h in
    and_from (is_plain b) (list_all is_plain bs) (word_byte_is_shown b both.0)
    (bytes_are_shown bs both.1)

digits_are_word_bytes : (ds : List ℕ) → list_all is_digit ds ≡ true
    → list_all is_word_byte ds ≡ true
digits_are_word_bytes [] h = refl
digits_are_word_bytes (d ∷ ds) h =
    let both = and_parts (is_digit d) (list_all is_digit ds) h in
    and_from (is_word_byte d) (list_all is_word_byte ds) (digit_is_word_byte d both.0)
    (digits_are_word_bytes ds both.1)

pub word_cut : (word : List ℕ) → is_word word ≡ true → IsCut word (Word word ∷ [])
word_cut [] h = absurd cc
word_cut (b ∷ bs) h =
    let outer = and_parts (is_letter b && list_all is_word_byte bs) (nat_le (length bs) 31) h in
    let inner = and_parts (is_letter b) (list_all is_word_byte bs) outer.0 in
    let first : is_word_byte b ≡ true = letter_is_word_byte b inner.0 in
    let is_token : token_of (b ∷ bs) ≡ Some (Word (b ∷ bs)) = rw (inner.0, outer.1) refl in
    record {
      plain =
          bytes_are_shown (b ∷ bs) (and_from (is_word_byte b) (list_all is_word_byte bs) first
          inner.1);
      cuts =
          λ rest br. ap tokens_of_pieces (run b bs rest first inner.1 br)
          ∙ one_token (b ∷ bs) (token_pieces rest) (Word (b ∷ bs)) is_token;
    }

pub number_cut : (digits : List ℕ) → 0 < length digits → list_all is_digit digits ≡ true
    → IsCut digits (Number digits ∷ [])
number_cut [] some h = absurd (omega arith)
number_cut (d ∷ ds) some h =
    let both = and_parts (is_digit d) (list_all is_digit ds) h in
    let first : is_word_byte d ≡ true = digit_is_word_byte d both.0 in
    let others : list_all is_word_byte ds ≡ true = digits_are_word_bytes ds both.1 in
    let is_token : token_of (d ∷ ds) ≡ Some (Number (d ∷ ds)) =
    rw (digit_is_no_letter d both.0, both.0, both.1) refl in
    record {
      plain =
          bytes_are_shown (d ∷ ds) (and_from (is_word_byte d) (list_all is_word_byte ds) first
          others);
      cuts =
          λ rest br. ap tokens_of_pieces (run d ds rest first others br)
          ∙ one_token (d ∷ ds) (token_pieces rest) (Number (d ∷ ds)) is_token;
    }

-- a space is passed over
pub blank_cut : (rest : List ℕ) → tokens_of (32 ∷ rest) ≡ tokens_of rest
blank_cut [] = refl
blank_cut (b ∷ bs) = refl

-- ---- one text after another

-- with a space between them
pub spaced_cut : (a b : List ℕ) (ta tb : List Token) → IsCut a ta → IsCut b tb
    → IsCut (a ++ 32 ∷ b) (ta ++ tb)
spaced_cut a b ta tb cut_a cut_b = record {
  plain = all-append is_plain a (32 ∷ b) cut_a.plain cut_b.plain;
  cuts = λ rest br.
      ap tokens_of (append_assoc a (32 ∷ b) rest)
      ∙ cut_a.cuts (32 ∷ (b ++ rest)) (space (b ++ rest))
      ∙ ap (with_front ta) (blank_cut (b ++ rest) ∙ cut_b.cuts rest br)
      ∙ with_front-twice ta tb (tokens_of rest);
}

never_long : (b : Bool) → (b && false) ≡ false
never_long true = refl
never_long false = refl

-- a sign that begins no longer one
short_40 : (rest : List ℕ) → token_pieces (40 ∷ rest) ≡ piece_before (40 ∷ []) (token_pieces rest)
short_40 [] = refl
short_40 (b ∷ bs) = rw (never_long (eqb b 61)) refl

short_41 : (rest : List ℕ) → token_pieces (41 ∷ rest) ≡ piece_before (41 ∷ []) (token_pieces rest)
short_41 [] = refl
short_41 (b ∷ bs) = rw (never_long (eqb b 61)) refl

short_44 : (rest : List ℕ) → token_pieces (44 ∷ rest) ≡ piece_before (44 ∷ []) (token_pieces rest)
short_44 [] = refl
short_44 (b ∷ bs) = rw (never_long (eqb b 61)) refl

short_45 : (rest : List ℕ) → token_pieces (45 ∷ rest) ≡ piece_before (45 ∷ []) (token_pieces rest)
short_45 [] = refl
short_45 (b ∷ bs) = rw (never_long (eqb b 61)) refl

-- a text that doesn't begin with `=`
abbrev pub begins_plainly : List ℕ → Bool
begins_plainly [] = false
begins_plainly (b ∷ bs) = not (eqb b 61)

short_33 : (rest : List ℕ) → begins_plainly rest ≡ true
    → token_pieces (33 ∷ rest) ≡ piece_before (33 ∷ []) (token_pieces rest)
short_33 [] h = refl
short_33 (b ∷ bs) h = rw (not-true (eqb b 61) h) refl

sign_first : (sign : ℕ) (rest : List ℕ) → token_of (sign ∷ []) ≡ Some (Symbol (sign ∷ []))
    → token_pieces (sign ∷ rest) ≡ piece_before (sign ∷ []) (token_pieces rest)
    → tokens_of (sign ∷ rest) ≡ with_front (Symbol (sign ∷ []) ∷ []) (tokens_of rest)
sign_first sign rest is_sign e =
    ap tokens_of_pieces e ∙ one_token (sign ∷ []) (token_pieces rest) (Symbol (sign ∷ [])) is_sign

pub minus_cut : (a : List ℕ) (ta : List Token) → IsCut a ta → IsCut (45 ∷ a) (Symbol (45 ∷ []) ∷ ta)
minus_cut a ta cut = record {
  plain = cut.plain;
  cuts =
      λ rest br. sign_first 45 (a ++ rest) refl (short_45 (a ++ rest))
      ∙ ap (with_front (Symbol (45 ∷ []) ∷ [])) (cut.cuts rest br)
      ∙ with_front-twice (Symbol (45 ∷ []) ∷ []) ta (tokens_of rest);
}

plainly-append : (a rest : List ℕ) → begins_plainly a ≡ true → begins_plainly (a ++ rest) ≡ true
plainly-append [] rest h = absurd cc
plainly-append (b ∷ bs) rest h = h

pub not_cut : (a : List ℕ) (ta : List Token) → begins_plainly a ≡ true → IsCut a ta
    → IsCut (33 ∷ a) (Symbol (33 ∷ []) ∷ ta)
not_cut a ta begins cut = record {
  plain = cut.plain;
  cuts =
      λ rest br. sign_first 33 (a ++ rest) refl
      (short_33 (a ++ rest) (plainly-append a rest begins))
      ∙ ap (with_front (Symbol (33 ∷ []) ∷ [])) (cut.cuts rest br)
      ∙ with_front-twice (Symbol (33 ∷ []) ∷ []) ta (tokens_of rest);
}

pub comma_cut : (a : List ℕ) (ta : List Token) → IsCut a ta
    → IsCut (a ++ 44 ∷ []) (ta ++ Symbol (44 ∷ []) ∷ [])
comma_cut a ta cut = record {
  plain = all-append is_plain a (44 ∷ []) cut.plain refl;
  cuts = λ rest br.
      ap tokens_of (append_assoc a (44 ∷ []) rest) ∙ cut.cuts (44 ∷ rest) (comma rest)
      ∙ ap (with_front ta) (sign_first 44 rest refl (short_44 rest))
      ∙ with_front-twice ta (Symbol (44 ∷ []) ∷ []) (tokens_of rest);
}

pub enclosed_cut : (a : List ℕ) (ta : List Token) → IsCut a ta
    → IsCut (40 ∷ (a ++ 41 ∷ [])) (Symbol (40 ∷ []) ∷ (ta ++ Symbol (41 ∷ []) ∷ []))
enclosed_cut a ta cut = record {
  plain = all-append is_plain a (41 ∷ []) cut.plain refl;
  cuts = λ rest br.
      sign_first 40 ((a ++ 41 ∷ []) ++ rest) refl (short_40 ((a ++ 41 ∷ []) ++ rest))
      ∙ ap (with_front (Symbol (40 ∷ []) ∷ []))
      (ap tokens_of (append_assoc a (41 ∷ []) rest) ∙ cut.cuts (41 ∷ rest) (closes rest)
      ∙ ap (with_front ta) (sign_first 41 rest refl (short_41 rest))
      ∙ with_front-twice ta (Symbol (41 ∷ []) ∷ []) (tokens_of rest))
      ∙ with_front-twice (Symbol (40 ∷ []) ∷ []) (ta ++ Symbol (41 ∷ []) ∷ []) (tokens_of rest);
}

-- the tokens of a whole line
pub whole_cut : (text : List ℕ) (tokens : List Token) → IsCut text tokens
    → tokens_of text ≡ Some tokens
whole_cut text tokens cut =
    ap tokens_of (sym (append-nil text)) ∙ cut.cuts [] ends
    ∙ ap (λ (ts : List Token). Some ts) (append-nil tokens)
