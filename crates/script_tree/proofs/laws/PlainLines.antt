-- Lines of plain bytes.
use Rattle.std.proofs.Common.{ℕ, Bool, ◌≡◌, true, false, eqb, List, [], ◌∷◌, ◌++◌, refl, ap, ◌∙◌}
use Rattle.std.proofs.Common.{arith}
use Rattle.std.specs.Prelude.{◌&&◌, nat_le, nat_lt}
use Rattle.std.specs.List.{list_all}
use Rattle.std.proofs.lemmas.Bool.{and_parts}
use Rattle.std.proofs.lemmas.Bool.Decides.{nat_tests}
use Rattle.pct_ask.specs.Lines.{lines_of, onto_first, text_of_lines}

-- a byte that a line may have: an ASCII character that is shown, or a space
abbrev pub is_plain : ℕ → Bool
is_plain b = nat_le 32 b && nat_lt b 127

-- lines of such bytes
abbrev pub ArePlain : List (List ℕ) → Type 0
ArePlain [] = Unit {0}
ArePlain (line ∷ lines) = (list_all is_plain line ≡ true) × ArePlain lines

plain_is_no_end : (b : ℕ) → is_plain b ≡ true → eqb b 10 ≡ false
plain_is_no_end b h = grind (arith, nat_tests)

line_first : (line rest : List ℕ) → list_all is_plain line ≡ true
    → lines_of (line ++ 10 ∷ rest) ≡ line ∷ lines_of rest
line_first [] rest h = refl
line_first (b ∷ line) rest h =
    let both = and_parts (is_plain b) (list_all is_plain line) h in
    rw (plain_is_no_end b both.0) (ap (onto_first b) (line_first line rest both.1))

-- plain lines are the lines of their text
pub lines_of_text : (lines : List (List ℕ)) → ArePlain lines
    → lines_of (text_of_lines lines) ≡ lines
lines_of_text [] plain = refl
lines_of_text (line ∷ lines) plain =
    line_first line (text_of_lines lines) plain.0
    ∙ ap (λ others. line ∷ others) (lines_of_text lines plain.1)
