-- Sets of mutexes as numbers, bit by bit.
use Rattle.std.proofs.Common.{◌≡◌, ◌≢◌, ℕ, ◌+◌, ◌-◌, ◌*◌, ◌%◌, ◌^◌, ◌<◌, sym, ap, ◌∙◌, subst, inl}
use Rattle.std.proofs.Common.{inr, arith, ◌⊎◌, bit_and, bit_or, w64, Option, None, Some}
use Rattle.std.proofs.Common.{MatchOption}
use Rattle.std.specs.Int.{bit_at, bit_not, trailing_zeros}
use Rattle.std.proofs.lemmas.Bool.{cases_eq}
use Rattle.std.proofs.lemmas.Nat.{and-not, and_comm, one_shl, pow_pos}
use Rattle.std.proofs.Math.Pow.{pow-lt}
use Rattle.std.proofs.lemmas.Nat.Bits.{bit_at_set_same, bit_at_set_other, bit_at_clear_same}
use Rattle.std.proofs.lemmas.Nat.Bits.{bit_at_clear_other, bit_at_or, bit_at_and, bit_at-zero}
use Rattle.std.proofs.lemmas.Nat.Bits.{bit_at-lt, bit_at-trailing_zeros, and_pow}
use Rattle.lock_order.specs.declared.mutex_set.MutexSet.{MutexSet}
use Rattle.lock_order.specs.MutexSets.{HasMutex, HasThose}
use Rattle.lock_order.specs.Chosen.{IsLowest}

-- the number as a set
abbrev pub set : ℕ → MutexSet
set n = record { bits = n }

pub has-with : (n m : ℕ) → m < 64 → HasThose (set (bit_or n (1 * 2 ^ m % 2 ^ 64)))
    (λ other. (other ≡ m) ⊎ HasMutex (set n) other)
has-with n m small other = (
  λ has. elim (cases_eq other m) [
    | inl e ↦ inl e
    | inr ne ↦ inr (record {
      small = has.small;
      bit = sym (bit_at_set_other w64 n m small other ne) ∙ has.bit;
    })
  ],
  λ either. elim (cases_eq other m) [
    | inl e ↦ record {
      small = omega arith;
      bit = ap (bit_at (bit_or n (1 * 2 ^ m % 2 ^ 64))) e
          ∙ bit_at_set_same w64 n m small;
    }
    | inr ne ↦ elim either [
      | inl e ↦ absurd (ne e)
      | inr has ↦ record {
        small = has.small;
        bit = bit_at_set_other w64 n m small other ne ∙ has.bit;
      }
    ]
  ],
)

pub has-without : (n m : ℕ) → m < 64
    → HasThose (set (bit_and n (bit_not w64 (1 * 2 ^ m % 2 ^ 64))))
    (λ other. (other ≢ m) × HasMutex (set n) other)
has-without n m small other = (
  λ has.
      let ne : other ≢ m = λ e.
      let gone = ap (bit_at (bit_and n (bit_not w64 (1 * 2 ^ m % 2 ^ 64)))) e
      ∙ bit_at_clear_same w64 n m small in
      omega (arith, gone, has.bit) in (
        ne,
        record {
          small = has.small;
          bit = sym (bit_at_clear_other w64 n m small other has.small ne)
              ∙ has.bit;
        },
      ),
  λ (ne, has). record {
    small = has.small;
    bit = bit_at_clear_other w64 n m small other has.small ne ∙ has.bit;
  },
)

pub has-union : (n m : ℕ) → HasThose (set (bit_or n m))
    (λ other. HasMutex (set n) other ⊎ HasMutex (set m) other)
has-union n m other =
    let both = bit_at_or n m other in
    let first = bit_at-lt n other in
    let second = bit_at-lt m other in (
      λ has. elim (cases_eq (bit_at n other) 1) [
        | inl e ↦ inl (record { small = has.small; bit = e })
        | inr ne ↦ inr (record {
          small = has.small;
          bit = omega (arith, both, first, second, has.bit);
        })
      ],
      λ either. elim either [
        | inl has ↦ record { small = has.small; bit = omega (arith, both, second, has.bit) }
        | inr has ↦ record { small = has.small; bit = omega (arith, both, first, has.bit) }
      ],
    )

pub has-common : (n m : ℕ) → HasThose (set (bit_and n m))
    (λ other. HasMutex (set n) other × HasMutex (set m) other)
has-common n m other =
    let both = bit_at_and n m other in
    let first = bit_at-lt n other in
    let second = bit_at-lt m other in (
      λ has. (
        record { small = has.small; bit = omega (arith, both, first, second, has.bit) },
        record { small = has.small; bit = omega (arith, both, first, second, has.bit) },
      ),
      λ (one, other_one). record {
        small = one.small;
        bit = omega (arith, both, one.bit, other_one.bit);
      },
    )

-- the mutex that was in the set is taken out of its number
pub fewer-bits : (n m : ℕ) → n < 2 ^ 64 → HasMutex (set n) m
    → bit_and n (bit_not w64 (1 * 2 ^ m % 2 ^ 64)) < n
fewer-bits n m fits has =
    let one = one_shl m 64 has.small in
    let rest : bit_and n (2 ^ 64 - 1 - 2 ^ m) + bit_and n (2 ^ m) ≡ n =
    ap (λ x. x + bit_and n (2 ^ m)) (and_comm n (2 ^ 64 - 1 - 2 ^ m))
    ∙ ap (λ x. bit_and (2 ^ 64 - 1 - 2 ^ m) n + x) (and_comm n (2 ^ m))
    ∙ and-not 64 (2 ^ m) n (pow-lt has.small) fits in
    let bit : bit_and n (2 ^ m) ≡ 2 ^ m = and_pow n m ∙ ap (λ x. x * 2 ^ m) has.bit ∙ omega arith in
    let P : ℕ → Type 0 = λ x. bit_and n (2 ^ 64 - 1 - x) < n in
    subst P (sym one) (omega (arith, rest, bit, pow_pos m))

pub has-none : (n m : ℕ) → n ≡ 0 → ¬ HasMutex (set n) m
has-none n m e has = let at = ap (λ x. bit_at x m) e ∙ bit_at-zero m in omega (arith, at, has.bit)

pub lowest-is : (n : ℕ) → 0 < n → n < 2 ^ 64 → IsLowest (HasMutex (set n)) (trailing_zeros w64 n)
lowest-is n some fits =
    let low = bit_at-trailing_zeros w64 n some fits in
    record {
      holds = record { small = low.0; bit = low.1 };
      lowest = λ lower below has. let at = low.2 lower below in omega (arith, at, has.bit);
    }

lowest-of-both : (n m low : ℕ) → IsLowest (HasMutex (set (bit_and n m))) low
    → IsLowest (λ mutex. HasMutex (set n) mutex × HasMutex (set m) mutex) low
lowest-of-both n m low is = record {
  holds = (has-common n m low).0 is.holds;
  lowest = λ lower below both. is.lowest lower below ((has-common n m lower).1 both);
}

pub lowest-common : (n m : ℕ) (low : Option ℕ)
    → MatchOption low ((mutex : ℕ) → ¬ HasMutex (set (bit_and n m)) mutex)
    (IsLowest (HasMutex (set (bit_and n m))))
    → MatchOption low ((mutex : ℕ) → HasMutex (set n) mutex → ¬ HasMutex (set m) mutex)
    (IsLowest (λ mutex. HasMutex (set n) mutex × HasMutex (set m) mutex))
lowest-common n m None none = λ mutex one other. none mutex ((has-common n m mutex).1 (one, other))
lowest-common n m (Some low) is = lowest-of-both n m low is
