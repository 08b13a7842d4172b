-- Names read from lines, one after another.
use Rattle.std.proofs.Common.{◌≡◌, ℕ, Option, Some, None, List, [], ◌∷◌, ap, sym, ◌∙◌}
use Rattle.std.proofs.Common.{Bor, length, take, get_or, arith}
use Rattle.std.specs.Option.{option_and_then}
use Rattle.pct_ask.specs.Lines.{lines_of}
use Rattle.pct_ask.specs.NameLists.{NameLists, no_names}
use Rattle.pct_ask.specs.Pieces.{seen}
use Rattle.pct_ask.specs.VerdictWords.{words_of}
use Rattle.pct_ask.specs.NameLists.{kind_in}
use Rattle.c_values.specs.NamesText.{joined_by, with_words, with_lines, names_of_text}

pub begins : (text iterator items : List ℕ) (names : NameLists) → names ≡ no_names
    → iterator ≡ items → items ≡ text → names_of_text text ≡ with_lines names (lines_of iterator)
begins text iterator items names none e f =
    ap (λ few. with_lines few (lines_of text)) (sym none)
    ∙ ap (λ rest. with_lines names (lines_of rest)) (sym (e ∙ f))

pub goes_on : (whole : Option NameLists) (names more : NameLists) (all : List (List ℕ))
    (line : List ℕ) (rest : List (List ℕ)) → whole ≡ with_lines names all → all ≡ line ∷ rest
    → with_words names (words_of line) ≡ Some more → whole ≡ with_lines more rest
goes_on whole names more all line rest e f g =
    e ∙ (ap (λ lines. with_lines names lines) f
    ∙ ap (λ read. option_and_then (λ later. with_lines later rest) read) g)

pub stops : (whole : Option NameLists) (names : NameLists) (all : List (List ℕ)) (line : List ℕ)
    (rest : List (List ℕ)) → whole ≡ with_lines names all → all ≡ line ∷ rest
    → with_words names (words_of line) ≡ None → None ≡ whole
stops whole names all line rest e f g =
    sym (e ∙ (ap (λ lines. with_lines names lines) f
    ∙ ap (λ read. option_and_then (λ later. with_lines later rest) read) g))

pub ends : (whole : Option NameLists) (names : NameLists) (all : List (List ℕ))
    → whole ≡ with_lines names all → all ≡ [] → Some names ≡ whole
ends whole names all e f = sym (e ∙ ap (λ lines. with_lines names lines) f)

-- the first three words are two: a kind and a name
pub of_two : (names : NameLists) (words : List (List ℕ)) (items : List (Bor (List ℕ)))
    (a b : Bor (List ℕ)) → seen items ≡ take 3 words → length items ≡ 2
    → a ≡ get_or items 0 a → b ≡ get_or items 1 b
    → with_words names words ≡ joined_by names b.now (kind_in a.now)
of_two names words [] a b e n f g = cc
of_two names words (x ∷ []) a b e n f g = cc
of_two names [] (x ∷ y ∷ []) a b e n f g = cc
of_two names (w ∷ []) (x ∷ y ∷ []) a b e n f g = cc
of_two names (w ∷ v ∷ []) (x ∷ y ∷ []) a b e n f g =
    let first : w ≡ a.now = cc in
    let second : v ≡ b.now = cc in
    ap (λ name. joined_by names name (kind_in w)) second
    ∙ ap (λ kind. joined_by names b.now (kind_in kind)) first
of_two names (w ∷ v ∷ u ∷ us) (x ∷ y ∷ []) a b e n f g = cc
of_two names words (x ∷ y ∷ z ∷ zs) a b e n f g = absurd (omega (arith, n))
