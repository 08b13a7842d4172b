-- The first number of a range that passes a test, and tests of all numbers of a range.
use Rattle.std.proofs.Common.{◌≡◌, ℕ, zero, suc, ◌+◌, ◌<◌, ◌≤◌, Bool, true, false, cond, get_or}
use Rattle.std.proofs.Common.{Some, None, refl, sym, ap, ◌∙◌, arith, ◌⊎◌, inl, inr}
use Rattle.std.specs.List.{find, list_all, range_with_len}
use Rattle.std.proofs.lemmas.Bool.{cases_eq}
use Rattle.std.proofs.lemmas.List.FromFn.{length-range_with_len, get_or-range_with_len}
use Rattle.std.proofs.lemmas.List.Sums.{AllPass-from_list_all, list_all-from_AllPass}
use Rattle.std.proofs.lemmas.List.Elements.{All-from_get_or}

-- ---- the first that passes
pub find-is : (test : ℕ → Bool) (from many found : ℕ) → from ≤ found → found < from + many
    → test found ≡ true → ((k : ℕ) → from ≤ k → k < found → test k ≡ false)
    → find test (range_with_len from many) ≡ Some found
find-is test from zero found low high passes before = absurd (omega arith)
find-is test from (suc many) found low high passes before = elim (cases_eq from found) [
  | inl e ↦
      ap (λ b. cond b (Some from) (find test (range_with_len (from + 1) many))) (ap test e ∙ passes)
      ∙ ap Some e
  | inr ne ↦
      ap (λ b. cond b (Some from) (find test (range_with_len (from + 1) many)))
      (before from (omega arith) (omega arith))
      ∙ find-is test (from + 1) many found (omega arith) (omega arith) passes
      (λ k p q. before k (omega arith) q)
]

pub find-none : (test : ℕ → Bool) (from many : ℕ)
    → ((k : ℕ) → from ≤ k → k < from + many → test k ≡ false)
    → find test (range_with_len from many) ≡ None
find-none test from zero none = refl
find-none test from (suc many) none =
    ap (λ b. cond b (Some from) (find test (range_with_len (from + 1) many)))
    (none from (omega arith) (omega arith))
    ∙ find-none test (from + 1) many (λ k p q. none k (omega arith) (omega arith))

-- what a search found
pub record IsFirstMatch (test : ℕ → Bool) (many found : ℕ) : Type 0 where
  pub within : found < many
  pub passes : test found ≡ true
  pub before : (k : ℕ) → k < found → test k ≡ false

record IsFoundFrom (test : ℕ → Bool) (from many found : ℕ) : Type 0 where
  pub low : from ≤ found
  pub high : found < from + many
  pub passes : test found ≡ true
  pub before : (k : ℕ) → from ≤ k → k < found → test k ≡ false

abbrev FindsFirst : (ℕ → Bool) → ℕ → ℕ → Type 0
FindsFirst test from many =
    ((found : ℕ) × (find test (range_with_len from many) ≡ Some found)
    × IsFoundFrom test from many found)
    ⊎ ((find test (range_with_len from many) ≡ None)
    × ((k : ℕ) → from ≤ k → k < from + many → test k ≡ false))

finds-by : (test : ℕ → Bool) (from many : ℕ) (b : Bool) → test from ≡ b
    → FindsFirst test (from + 1) many
    → FindsFirst test from (suc many)
finds-by test from many true is rest =
    inl (
      from,
      ap (λ b. cond b (Some from) (find test (range_with_len (from + 1) many))) is,
      record {
        low = omega arith;
        high = omega arith;
        passes = is;
        before = λ k p q. absurd (omega arith);
      },
    )
finds-by test from many false is rest = elim rest [
  | inl w ↦
      inl (
        w.0,
        ap (λ b. cond b (Some from) (find test (range_with_len (from + 1) many))) is ∙ w.1,
        record {
          low = omega (arith, w.2.low);
          high = omega (arith, w.2.high);
          passes = w.2.passes;
          before = λ k p q.
              elim (cases_eq from k)
              [ inl e ↦ sym (ap test e) ∙ is | inr ne ↦ w.2.before k (omega arith) q ];
        },
      )
  | inr w ↦
      inr (
        ap (λ b. cond b (Some from) (find test (range_with_len (from + 1) many))) is ∙ w.0,
        λ k p q.
            elim (cases_eq from k)
            [ inl e ↦ sym (ap test e) ∙ is | inr ne ↦ w.1 k (omega arith) (omega arith) ],
      )
]

finds : (test : ℕ → Bool) (from many : ℕ) → FindsFirst test from many
finds test from zero = inr (refl, λ k p q. absurd (omega arith))
finds test from (suc many) = finds-by test from many (test from) refl (finds test (from + 1) many)

-- a search from 0 on finds the first, or none passes
pub found-or-none : (test : ℕ → Bool) (many : ℕ)
    → ((found : ℕ) × (find test (range_with_len 0 many) ≡ Some found)
    × IsFirstMatch test many found)
    ⊎ ((find test (range_with_len 0 many) ≡ None) × ((k : ℕ) → k < many → test k ≡ false))
found-or-none test many = elim (finds test 0 many) [
  | inl w ↦
      inl (
        w.0,
        w.1,
        record {
          within = omega (arith, w.2.high);
          passes = w.2.passes;
          before = λ k p. w.2.before k (omega arith) p;
        },
      )
  | inr w ↦ inr (w.0, λ k p. w.1 k (omega arith) (omega arith))
]

-- ---- tests of all numbers below n
pub all-below : (test : ℕ → Bool) (many : ℕ) → list_all test (range_with_len 0 many) ≡ true
    → (k : ℕ) → k < many → test k ≡ true
all-below test many all k within =
    let long = length-range_with_len 0 many in
    let at : get_or (range_with_len 0 many) k 0 ≡ k =
    get_or-range_with_len 0 many k 0 within ∙ omega arith in
    sym (ap test at) ∙ AllPass-from_list_all test (range_with_len 0 many) all k 0 (omega arith)

pub all-from-below : (test : ℕ → Bool) (many : ℕ) → ((k : ℕ) → k < many → test k ≡ true)
    → list_all test (range_with_len 0 many) ≡ true
all-from-below test many each =
    let long = length-range_with_len 0 many in
    list_all-from_AllPass test (range_with_len 0 many)
    (All-from_get_or (λ x. test x ≡ true) (range_with_len 0 many) 0
    (λ i within.
    ap test (get_or-range_with_len 0 many i 0 (omega arith) ∙ omega arith) ∙ each i (omega arith)))
