-- A text has at most one first fault.
use Rattle.std.specs.Prelude.{nat_lt}
use Rattle.std.proofs.Common.{◌≡◌, ◌⊎◌, ℕ, ◌<◌, Bool, true, false, refl, sym, inl, inr, arith}
use Rattle.std.proofs.lemmas.Bool.Decides.{nat_tests}
use Rattle.pct_ask.specs.FirstFaults.{IsFirstFault}

order-cases : (m n : ℕ) → (m < n) ⊎ ((n < m) ⊎ (m ≡ n))
order-cases m n = by (nat_lt m n) (nat_lt n m) refl refl
  where
    by : (a b : Bool) → nat_lt m n ≡ a → nat_lt n m ≡ b → (m < n) ⊎ ((n < m) ⊎ (m ≡ n))
    by true b p q = inl (grind (arith, nat_tests))
    by false true p q = inr (inl (grind (arith, nat_tests)))
    by false false p q = inr (inr (grind (arith, nat_tests)))

-- where kinds with one place in their order are one kind, there is one first fault
pub one_first_fault : {Kind : Type 0} (rank : Kind → ℕ) (IsFaulty : ℕ → Kind → Type 0)
    → ((a b : Kind) → rank a ≡ rank b → a ≡ b) → (l m : ℕ) (j k : Kind)
    → IsFirstFault rank IsFaulty l j → IsFirstFault rank IsFaulty m k → (l ≡ m) × (j ≡ k)
one_first_fault {Kind} rank IsFaulty same_kind l m j k a b = lines (order-cases l m)
  where
    moved : (x y : ℕ) (kind : Kind) → x ≡ y → IsFaulty x kind → IsFaulty y kind
    moved x y kind same faulty = rw (← same) faulty

    kinds : l ≡ m → (rank j < rank k) ⊎ ((rank k < rank j) ⊎ (rank j ≡ rank k)) → j ≡ k
    kinds same (inl low) = absurd (b.first_kind j low (moved l m j same a.faulty))
    kinds same (inr (inl low)) = absurd (a.first_kind k low (moved m l k (sym same) b.faulty))
    kinds same (inr (inr e)) = same_kind j k e

    lines : (l < m) ⊎ ((m < l) ⊎ (l ≡ m)) → (l ≡ m) × (j ≡ k)
    lines (inl low) = absurd (b.first_line l j low a.faulty)
    lines (inr (inl low)) = absurd (a.first_line m k low b.faulty)
    lines (inr (inr e)) = (e, kinds e (order-cases (rank j) (rank k)))
