-- What `read_number` answers of a word tells what number in a range it is.
use Rattle.std.specs.Prelude.{◌&&◌, nat_le, decimal, FitsSigned}
use Rattle.std.specs.Int.{w128}
use Rattle.std.specs.Str.{bytes_eq}
use Rattle.std.specs.Str.Parse.{digits_value, AllDigits}
use Rattle.std.proofs.Common.{◌≡◌, ℕ, ◌<◌, ◌≤◌, ◌^◌, inl, inr, true, List, ◌∷◌, ℤ, pos, negsuc, suc}
use Rattle.std.proofs.Common.{Option, Some, None, sym, ◌∙◌, subst, arith}
use Rattle.std.proofs.lemmas.Bool.{cases_Bool, and_parts}
use Rattle.std.proofs.lemmas.Int.{fits_signed_from_abs}
use Rattle.std.proofs.lemmas.Fmt.{decimal_is_IsNumeral_wide}
use Rattle.std.proofs.lemmas.Str.Parse.{digit_from_value}
use Rattle.std.proofs.lemmas.Bool.Decides.{nat_tests}
use Rattle.std.proofs.lemmas.Slice.Eq.{bytes_eq-Decides}
use Rattle.pct_ask.specs.Numbers.{number_text, in_range, number_in}
use Rattle.pct_ask.proofs.laws.Decimals.{number_in-within}

in-within : (low high m : ℕ) → (nat_le low m && nat_le m high) ≡ true → m ≤ high
in-within low high m h = let p = and_parts (nat_le low m) (nat_le m high) h in let q = p.1 in
    grind (arith, nat_tests)

-- where nothing is read, there is no number in range
pub number_in-none : (low high : ℕ) (word : List ℕ) (read : Option ℤ) → high < 2 ^ 64
    → ((z : ℤ) → FitsSigned w128 z → word ≡ number_text z → read ≡ Some z) → read ≡ None
    → number_in low high word ≡ None
unfolding number_in
number_in-none low high word read small every was =
    let m = digits_value 10 word in
    elim (cases_Bool (bytes_eq (decimal m) word)) [
      | inr differs ↦ rw differs
      | inl same ↦ elim (cases_Bool (nat_le low m && nat_le m high)) [
        | inr out ↦ rw (same, out)
        | inl inside ↦
            let most = in-within low high m inside in
            let is : word ≡ number_text (pos m) =
            sym ((bytes_eq-Decides (decimal m) word).0 same) in
            let some = sym was ∙ every (pos m) (fits_signed_from_abs w128 (pos m) (omega arith))
            is in
            absurd cc
      ]
    ]

-- a number that begins with a sign isn't one from 0 on
no-sign : (m : ℕ) (digits : List ℕ) → bytes_eq (decimal m) (45 ∷ digits) ≡ true → m < 2 ^ 127 → ⊥
no-sign m digits e small =
    let k = decimal_is_IsNumeral_wide m (omega arith) in
    let is : decimal m ≡ 45 ∷ digits = (bytes_eq-Decides (decimal m) (45 ∷ digits)).0 e in
    let digit = subst (λ (ds : List ℕ). AllDigits 10 ds) is k.0.1 in
    let range = digit_from_value 45 digit.0 in
    absurd (omega (arith, range))

number_in-signed : (low high : ℕ) (digits : List ℕ) → high < 2 ^ 64
    → number_in low high (45 ∷ digits) ≡ None
unfolding number_in
number_in-signed low high digits small =
    let m = digits_value 10 (45 ∷ digits) in
    elim (cases_Bool (bytes_eq (decimal m) (45 ∷ digits))) [
      | inr differs ↦ rw differs
      | inl same ↦ elim (cases_Bool (nat_le low m && nat_le m high)) [
        | inr out ↦ rw (same, out)
        | inl inside ↦ let most = in-within low high m inside in
            absurd (no-sign m digits same (omega arith))
      ]
    ]

pub number_in-number : (low high : ℕ) (word : List ℕ) (z : ℤ) → high < 2 ^ 64 → FitsSigned w128 z
    → word ≡ number_text z → number_in low high word ≡ in_range low high z
number_in-number low high word (pos n) small fits is =
    number_in-within low high n word (omega (arith, fits.sfits)) is
number_in-number low high word (negsuc n) small fits is =
    subst (λ w. number_in low high w ≡ None) (sym is)
    (number_in-signed low high (decimal (suc n)) small)
