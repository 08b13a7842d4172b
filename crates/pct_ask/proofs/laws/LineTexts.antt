-- The text of lines that stand one behind another.
use Rattle.std.proofs.Common.{◌≡◌, ℕ, List, [], ◌∷◌, ◌++◌, refl, sym, ap, ◌∙◌, append_assoc}
use Rattle.pct_ask.specs.Lines.{text_of_lines}

-- it is the one text behind the other
pub text_of_lines-append : (a b : List (List ℕ))
    → text_of_lines (a ++ b) ≡ text_of_lines a ++ text_of_lines b
text_of_lines-append [] b = refl
text_of_lines-append (line ∷ a) b =
    ap (λ text. line ++ 10 ∷ text) (text_of_lines-append a b)
    ∙ sym (append_assoc line (10 ∷ text_of_lines a) (text_of_lines b))
