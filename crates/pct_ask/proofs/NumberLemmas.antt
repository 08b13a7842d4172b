-- Facts on the texts of numbers.
use Rattle.std.proofs.Common.{◌≡◌, ℕ, suc, List, ◌∷◌, ℤ, pos, negsuc, neg_ℤ, true, Result, Ok, Err}
use Rattle.std.proofs.Common.{FitsSigned, to_z, of_z, refl, sym, ap, subst, ◌∙◌, arith}
use Rattle.std.specs.Int.{w128}
use Rattle.std.proofs.lemmas.Int.{to_z-of_z}
use Rattle.std.specs.Fmt.{decimal}
use Rattle.std.specs.Str.{IsUtf8, bytes_eq}
use Rattle.std.proofs.lemmas.Slice.Eq.{bytes_eq-Decides}
use Rattle.std.specs.Str.Parse.{ParsesSigned}
use Rattle.std.proofs.lemmas.Fmt.{decimal_is_IsNumeral_wide}
use Rattle.std.proofs.lemmas.Result.{Ok-from_Ok_iff}
use Rattle.std.proofs.lemmas.Str.{IsUtf8-from_ascii}
use Rattle.std.proofs.lemmas.Str.Parse.{parse_signed_digits, parse_signed_minus, numerals_by_value}
use Rattle.std.proofs.lemmas.Str.Parse.{tells_digits}
use Rattle.itoa.proofs.Decimal.{signed_wide}
use Rattle.pct_ask.specs.Numbers.{number_text}

-- `parse` reads each canonical decimal
pub parse-number_text : {E : Type 0} (z : ℤ) (bs : List ℕ) (r : Result ℤ E) → FitsSigned w128 z
    → bs ≡ number_text z → ParsesSigned w128 10 bs r → r ≡ Ok z
parse-number_text (pos n) bs r fits is h =
    let k = decimal_is_IsNumeral_wide n (omega (arith, fits.sfits)) in
    let read = parse_signed_digits (numerals_by_value _ tells_digits) w128 (decimal n) r
    (subst (λ l. ParsesSigned w128 10 l r) is h) k.0.1 in
    Ok-from_Ok_iff r _ _ read (k.0.0, omega (arith, k.1, fits.sfits)) ∙ ap (λ m. Ok (pos m)) k.1
parse-number_text (negsuc n) bs r fits is h =
    let k = decimal_is_IsNumeral_wide (suc n) (omega (arith, fits.sfits)) in
    let read = parse_signed_minus (numerals_by_value _ tells_digits) w128 (45 ∷ decimal (suc n)) r
    (subst (λ l. ParsesSigned w128 10 l r) is h) refl in
    Ok-from_Ok_iff r _ _ read (k.0.1, k.0.0, omega (arith, k.1, fits.sfits))
    ∙ ap (λ m. Ok (neg_ℤ (pos m))) k.1

pub number_text-utf8 : (z : ℤ) (bs : List ℕ) → FitsSigned w128 z → bs ≡ number_text z → IsUtf8 bs
number_text-utf8 z bs fits is = rw is (IsUtf8-from_ascii (number_text z) (signed_wide z fits).0)

pub refused-by-parse : {E : Type 0} (z : ℤ) (bs : List ℕ) (e : E) → FitsSigned w128 z
    → bs ≡ number_text z → ParsesSigned w128 10 bs (Err e) → ⊥
refused-by-parse z bs e fits is h =
    let read : Err e ≡ Ok z = parse-number_text z bs (Err e) fits is h in cc

-- what was parsed is the number, and is written as the same text again
pub taken-by-parse : {E : Type 0} (y z : ℤ) (bs canonical : List ℕ) (r : Result ℤ E)
    → FitsSigned w128 z → bs ≡ number_text z → r ≡ Ok y → ParsesSigned w128 10 bs r
    → canonical ≡ number_text (to_z w128 (of_z w128 y))
    → (to_z w128 (of_z w128 y) ≡ z) × (bytes_eq canonical bs ≡ true)
taken-by-parse y z bs canonical r fits is was h written =
    let read : Ok y ≡ Ok z = sym was ∙ parse-number_text z bs r fits is h in
    let number : y ≡ z = cc in
    let shown : to_z w128 (of_z w128 y) ≡ z =
    ap (λ n. to_z w128 (of_z w128 n)) number ∙ to_z-of_z w128 z fits in
    (shown, (bytes_eq-Decides canonical bs).1 (written ∙ ap number_text shown ∙ sym is))
