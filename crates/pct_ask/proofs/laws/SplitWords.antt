-- Facts on the words of a text, which one space separates.
use Rattle.std.specs.Prelude.{◌==◌}
use Rattle.std.specs.List.{All, join_with_byte}
use Rattle.std.proofs.Common.{◌≡◌, ℕ, false, List, [], ◌∷◌, refl, sym, ap, ◌∙◌}
use Rattle.std.proofs.lemmas.List.Splits.{slice_split_none, slice_split_at}
use Rattle.std.proofs.lemmas.List.Splits.{join_with_byte-slice_split}
use Rattle.pct_ask.specs.VerdictWords.{words_of}

-- no space in a word
abbrev pub IsSolid : List ℕ → Type 0
IsSolid word = All (λ b. (b == 32) ≡ false) word

abbrev pub AreSolid : List (List ℕ) → Type 0
AreSolid [] = Unit {0}
AreSolid (word ∷ words) = IsSolid word × AreSolid words

-- words with one space between them are cut into the same words
pub words_of-join : (word : List ℕ) (words : List (List ℕ)) → IsSolid word → AreSolid words
    → words_of (join_with_byte 32 (word ∷ words)) ≡ word ∷ words
words_of-join word [] solid others = slice_split_none (λ b. b == 32) word solid
words_of-join word (next ∷ words) solid others =
    slice_split_at (λ b. b == 32) word 32 (join_with_byte 32 (next ∷ words)) solid refl
    ∙ ap (λ ws. word ∷ ws) (words_of-join next words others.0 others.1)

-- and the words of a text are joined to the text
pub join-words_of : (text : List ℕ) → join_with_byte 32 (words_of text) ≡ text
join-words_of text = join_with_byte-slice_split 32 text

-- so a text of known words is those words, joined
pub joined-words : (text : List ℕ) (words : List (List ℕ)) → words_of text ≡ words
    → text ≡ join_with_byte 32 words
joined-words text words is = sym (join-words_of text) ∙ ap (join_with_byte 32) is
