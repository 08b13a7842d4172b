-- Facts on the lines of a text.
use Rattle.std.specs.Prelude.{◌==◌, position}
use Rattle.std.specs.List.{position_or_len}
use Rattle.std.proofs.Common.{◌≡◌, ℕ, ◌+◌, ◌<◌, ◌≤◌, true, false, List, [], ◌∷◌, length, get_or}
use Rattle.std.proofs.Common.{take, drop, zero, suc, Some, None, ap, arith, add-one}
use Rattle.std.proofs.lemmas.List.Quantifiers.{position-Some}
use Rattle.pct_ask.specs.Lines.{lines_of, onto_first}
use Rattle.pct_ask.proofs.laws.Positions.{not-here, none-left}

cut-at : (text : List ℕ) (i : ℕ) → i < length text → (get_or text i 0 == 10) ≡ true
    → ((k : ℕ) → k < i → (get_or text k 0 == 10) ≡ false)
    → lines_of text ≡ take i text ∷ lines_of (drop (suc i) text)
cut-at [] i h here before = absurd (omega arith)
cut-at (b ∷ bs) zero h here before = rw here
cut-at (b ∷ bs) (suc i) h here before =
    let no : (b == 10) ≡ false = before 0 (omega arith) in
    rw no (ap (λ lines. onto_first b lines)
    (cut-at bs i (omega arith) here (λ k low. before (suc k) (omega arith))))

-- the first line ends at the first LF
pub lines_of-cut : (text : List ℕ) (i : ℕ) → position (λ b. b == 10) text ≡ Some i
    → lines_of text ≡ take i text ∷ lines_of (drop (i + 1) text)
lines_of-cut text i at =
    let first = position-Some (λ b. b == 10) text i 0 at in
    rw add-one (cut-at text i first.0 first.1 first.2)

whole : (text : List ℕ) → 0 < length text → length text ≤ position_or_len (λ b. b == 10) text
    → lines_of text ≡ text ∷ []
whole [] h none = absurd (omega arith)
whole (b ∷ []) h none = let here = not-here (b == 10) 0 0 none in rw here.0
whole (b ∷ c ∷ bs) h none =
    let here = not-here (b == 10) (suc (length bs)) (position_or_len (λ x. x == 10) (c ∷ bs))
    none in
    rw here.0 (ap (λ lines. onto_first b lines) (whole (c ∷ bs) (omega arith) here.1))

-- a text with no LF is one line
pub lines_of-whole : (text : List ℕ) → 0 < length text → position (λ b. b == 10) text ≡ None
    → lines_of text ≡ text ∷ []
lines_of-whole text h none = whole text h (none-left _ _ none)
