-- Where the first item that passes a test stands.
use Rattle.std.specs.Prelude.{not, cond, nat_lt}
use Rattle.std.proofs.Common.{◌≡◌, ℕ, ◌+◌, ◌≤◌, Bool, true, false, suc, Some, None, refl, arith}
use Rattle.std.proofs.lemmas.Bool.Decides.{nat_tests}

-- where it is later than the first item, the first one fails
pub not-here : (t : Bool) (n m : ℕ) → suc n ≤ cond (not t) (1 + m) 0 → (t ≡ false) × (n ≤ m)
not-here true n m h = absurd (omega arith)
not-here false n m h = (refl, omega arith)

-- where there is none, no item is left
pub none-left : (n m : ℕ) → cond (nat_lt n m) (Some n) None ≡ None → m ≤ n
none-left n m h = grind (arith, nat_tests)
