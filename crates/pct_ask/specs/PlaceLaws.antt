-- The laws by which a list of places is copied, compared and hashed. Nothing here is needed to read
-- a contract.
use Rattle.std.specs.Prelude.{◌≡◌, ℕ, ◌+◌, ◌/◌, ◌%◌, ◌^◌, ◌<◌, ◌==◌, Bool, true, false}
use Rattle.std.specs.Prelude.{if◌then◌else◌, Option, Some, None, List, [], ◌∷◌, length, suc, refl}
use Rattle.std.specs.Bool.{Decides}
use Rattle.std.specs.Cmp.{IsEquivalence, decided, unsigned_Decides}
use Rattle.std.specs.Cmp.Lexicographic.{pointwise_decides}
use Rattle.std.proofs.Common.{arith, ap, sym, subst, ◌∙◌}
use Rattle.std.proofs.Math.Nat.{pow-suc}
use Rattle.std.proofs.lemmas.Bool.Decides.{eqb_tells, Decides-and, Decides-like}
use Rattle.pct_ask.specs.Places.{places_from, lines_from, same_place, same_places}
use Rattle.pct_ask.specs.Places.{known_lines, line_bits, line_numbers, AreKnown}
use Rattle.pct_ask.specs.declared.limits.TheConstants.{MAX_THREADS}

-- a thread before all of them has no line
lines_from-later : (thread first n : ℕ) (lines : List (Option ℕ)) → thread < first
    → lines_from thread (suc n) (places_from first lines)
    ≡ None ∷ lines_from (thread + 1) n (places_from first lines)
lines_from-later thread first n [] h = refl
lines_from-later thread first n (None ∷ lines) h =
    lines_from-later thread (first + 1) n lines (omega arith)
lines_from-later thread first n (Some line ∷ lines) h =
    let apart : (first == thread) ≡ false = grind (arith, eqb_tells) in rw apart

lines_from-places : (thread : ℕ) (lines : List (Option ℕ))
    → lines_from thread (length lines) (places_from thread lines) ≡ lines
lines_from-places thread [] = refl
lines_from-places thread (None ∷ lines) =
    lines_from-later thread (thread + 1) (length lines) lines (omega arith)
    ∙ ap (λ others. None ∷ others) (lines_from-places (thread + 1) lines)
lines_from-places thread (Some line ∷ lines) =
    let same : (thread == thread) ≡ true = grind (arith, eqb_tells) in
    rw same (ap (λ others. Some line ∷ others) (lines_from-places (thread + 1) lines))

-- the places of 64 lines give them back
lines_of_places : (lines : List (Option ℕ)) → length lines ≡ MAX_THREADS
    → lines_from 0 MAX_THREADS (places_from 0 lines) ≡ lines
lines_of_places lines long =
    ap (λ n. lines_from 0 n (places_from 0 lines)) (sym long) ∙ lines_from-places 0 lines

pub length-known : (bits : ℕ) (numbers : List ℕ)
    → length (known_lines bits numbers) ≡ length numbers
length-known bits [] = refl
length-known bits (number ∷ numbers) = ap (λ n. suc n) (length-known (bits / 2) numbers)

halves : (bits n : ℕ) → bits < 2 ^ suc n → bits / 2 < 2 ^ n
halves bits n h = omega (arith, h, pow-suc 2 n)

line_bits-known : (bits : ℕ) (numbers : List ℕ) → bits < 2 ^ length numbers
    → line_bits (known_lines bits numbers) ≡ bits
line_bits-known bits [] h = omega (arith, h)
line_bits-known bits (number ∷ numbers) h =
    by (line_bits-known (bits / 2) numbers (halves bits (length numbers) h)) (bits % 2 == 1) refl
  where
    by : line_bits (known_lines (bits / 2) numbers) ≡ bits / 2 → (odd : Bool)
        → (bits % 2 == 1) ≡ odd
        → line_bits ((if odd then Some number else None) ∷ known_lines (bits / 2) numbers) ≡ bits
    by others true e = let odd = (unsigned_Decides (bits % 2) 1).0 e in omega (arith, odd, others)
    by others false e =
        let even : bits % 2 ≡ 0 = grind (arith, eqb_tells) in omega (arith, even, others)

-- the places that are known give their lines back
lines-back : (bits : ℕ) (numbers : List ℕ) → AreKnown bits numbers
    → lines_from 0 MAX_THREADS (places_from 0 (known_lines bits numbers)) ≡ known_lines bits numbers
lines-back bits numbers known =
    lines_of_places (known_lines bits numbers) (length-known bits numbers ∙ known.long)

pub bits-back : (bits : ℕ) (numbers : List ℕ) → AreKnown bits numbers
    → line_bits (lines_from 0 MAX_THREADS (places_from 0 (known_lines bits numbers))) ≡ bits
bits-back bits numbers known =
    ap (λ lines. line_bits lines) (lines-back bits numbers known)
    ∙ line_bits-known bits numbers (subst (λ n. bits < 2 ^ n) (sym known.long) known.narrow)

pub numbers-back : (bits : ℕ) (numbers : List ℕ) → AreKnown bits numbers
    → line_numbers (lines_from 0 MAX_THREADS (places_from 0 (known_lines bits numbers))) ≡ numbers
numbers-back bits numbers known =
    ap (λ lines. line_numbers lines) (lines-back bits numbers known) ∙ known.zeros

same_pairs : (x y u v : ℕ) → x ≡ u → y ≡ v → ◌≡◌ {A = ℕ × ℕ} (x, y) (u, v)
same_pairs x y u v e f = cc

same_place-Decides : (a b : ℕ × ℕ) → Decides (same_place a b) (a ≡ b)
same_place-Decides a b =
    Decides-like (same_place a b) (λ e. same_pairs a.0 a.1 b.0 b.1 e.0 e.1)
    (λ e. (ap (λ p. p.0) e, ap (λ p. p.1) e))
    (Decides-and (a.0 == b.0) (a.1 == b.1) (unsigned_Decides a.0 b.0) (unsigned_Decides a.1 b.1))

pub same_places-Decides : (a b : List (ℕ × ℕ)) → Decides (same_places a b) (a ≡ b)
same_places-Decides = pointwise_decides same_place-Decides

pub same_places-equivalence : IsEquivalence same_places
same_places-equivalence = decided same_places same_places-Decides
