-- Where a line stands among the pieces of a text.
use Rattle.std.proofs.Common.{◌≡◌, ◌⊎◌, ℕ, ◌+◌, ◌-◌, ◌<◌, ◌≤◌, true, false, List, [], ◌∷◌, length}
use Rattle.std.proofs.Common.{drop, zero, suc, refl, sym, ◌∙◌, ap, arith, inl, inr}
use Rattle.std.proofs.lemmas.List.{drop_all, length-drop}
use Rattle.directive.specs.Lines.{LineBytes, first_line, line_at, HasByte}

-- line n + 1 is the first of what is left after n pieces
pub line-here : (all rest : List (List ℕ)) (n : ℕ) → drop n all ≡ rest
    → line_at all (n + 1) ≡ first_line rest
line-here all rest n left =
    let e : n + 1 - 1 ≡ n = omega arith in
    ap (λ m. first_line (drop m all)) e ∙ ap first_line left

pub drop-next : (all : List (List ℕ)) (n : ℕ) (piece : List ℕ) (pieces : List (List ℕ))
    → drop n all ≡ piece ∷ pieces → drop (n + 1) all ≡ pieces
drop-next all n piece pieces left =
    ap (λ m. drop m all) (let e : n + 1 ≡ suc n = omega arith in e) ∙ next all n piece pieces left
  where
    next : (all : List (List ℕ)) (n : ℕ) (piece : List ℕ) (pieces : List (List ℕ))
        → drop n all ≡ piece ∷ pieces → drop (suc n) all ≡ pieces
    next [] zero piece pieces left = absurd cc
    next [] (suc n) piece pieces left = absurd cc
    next (p ∷ ps) zero piece pieces left = cc
    next (p ∷ ps) (suc n) piece pieces left = next ps n piece pieces left

-- nothing is there past the last piece
pub not-there : (all : List (List ℕ)) (n k : ℕ) → drop n all ≡ [] ∷ [] → n < k
    → ¬ HasByte (line_at all k)
not-there all n k left past = by (k - 1) refl
  where
    long : length all ≤ n + 1
    long = let e = sym (length-drop n all) ∙ ap length left in omega (arith, e)

    none : (line : LineBytes) → line ≡ record { text = []; whole = false } → ¬ HasByte line
    none line is = λ there. elim there [
      | inl w ↦ (let bad : false ≡ true = ap (λ (l : LineBytes). l.whole) (sym is) ∙ w in cc)
      | inr s ↦ (let few : length line.text ≡ 0 = ap (λ (l : LineBytes). length l.text) is in
          omega arith)
    ]

    by : (m : ℕ) → k - 1 ≡ m → ¬ HasByte (line_at all k)
    by m e = elim (at-or-past m e) [
      | inl here ↦ none (line_at all k)
          (ap (λ j. first_line (drop j all)) (e ∙ here) ∙ ap first_line left)
      | inr after ↦ none (line_at all k)
          (ap first_line (drop_all (k - 1) all (omega (arith, long))))
    ]
      where
        at-or-past : (m : ℕ) → k - 1 ≡ m → (m ≡ n) ⊎ (n + 1 ≤ m)
        at-or-past m e = grind arith
