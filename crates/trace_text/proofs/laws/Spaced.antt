-- The words of a line behind spaces.
use Rattle.std.proofs.Common.{◌≡◌, ℕ, List, [], ◌∷◌, ◌++◌, refl, sym, ap, ◌∙◌, append_assoc}
use Rattle.std.specs.List.{join_with_byte}
use Rattle.std.proofs.lemmas.List.{append-nil}
use Rattle.trace_text.specs.Spaced.{behind_spaces}

-- the words after the first stand behind spaces
pub join-spaced : (word : List ℕ) (words : List (List ℕ))
    → join_with_byte 32 (word ∷ words) ≡ word ++ behind_spaces words
join-spaced word [] = sym (append-nil word)
join-spaced word (next ∷ words) = ap (λ (x : List ℕ). word ++ (32 ∷ x)) (join-spaced next words)

pub spaced-append : (words more : List (List ℕ))
    → behind_spaces (words ++ more) ≡ behind_spaces words ++ behind_spaces more
spaced-append [] more = refl
spaced-append (word ∷ words) more =
    ap (λ (x : List ℕ). (32 ∷ word) ++ x) (spaced-append words more)
    ∙ sym (append_assoc (32 ∷ word) (behind_spaces words) (behind_spaces more))
