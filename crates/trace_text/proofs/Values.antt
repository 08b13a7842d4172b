-- A number's canonical decimal is read as the number, and nothing else is.
use Rattle.std.specs.Prelude.{◌==◌, decimal, FitsSigned, if◌then◌else◌}
use Rattle.std.specs.Int.{w64, w128}
use Rattle.std.specs.Str.{bytes_eq}
use Rattle.std.specs.Str.Parse.{digits_value, AllDigits}
use Rattle.std.proofs.Common.{◌≡◌, ℕ, ◌<◌, ◌^◌, Bool, true, false, List, [], ◌∷◌, length, ℤ, pos}
use Rattle.std.proofs.Common.{negsuc, suc, Option, Some, None, refl, sym, ◌∙◌, ap, arith}
use Rattle.std.proofs.lemmas.Int.{fits_signed_from_abs}
use Rattle.std.proofs.lemmas.Fmt.{decimal_is_IsNumeral_wide}
use Rattle.std.proofs.lemmas.Str.Parse.{digit_from_value}
use Rattle.std.proofs.lemmas.Bool.Decides.{nat_tests}
use Rattle.std.proofs.lemmas.Slice.Eq.{bytes_eq-Decides}
use Rattle.pct_ask.specs.Numbers.{number_text}
use Rattle.trace_text.specs.reader.Numbers.{minus, guess, is_small, small, i64_in}

guess-digits : (ds : List ℕ) → 0 < length ds → AllDigits 10 ds → guess ds ≡ pos (digits_value 10 ds)
guess-digits [] some digits = absurd (omega arith)
guess-digits (d ∷ ds) some digits =
    let range = digit_from_value d digits.0 in
    let no_sign : (d == 45) ≡ false = grind (arith, nat_tests) in
    rw no_sign

-- the number that a canonical decimal spells is guessed
pub guess-number_text : (z : ℤ) → FitsSigned w128 z → guess (number_text z) ≡ z
guess-number_text (pos n) fits =
    let k = decimal_is_IsNumeral_wide n (omega (arith, fits.sfits)) in
    guess-digits (decimal n) k.0.0 k.0.1 ∙ ap pos k.1
guess-number_text (negsuc n) fits =
    let k = decimal_is_IsNumeral_wide (suc n) (omega (arith, fits.sfits)) in
    ap minus k.1

-- a word that spells a number of 128 bits is the i64's where it is one
pub i64_in-number : (word : List ℕ) (z : ℤ) → FitsSigned w128 z → word ≡ number_text z
    → i64_in word ≡ small z
unfolding i64_in
i64_in-number word z fits is =
    let same : guess word ≡ z = ap guess is ∙ guess-number_text z fits in
    let canonical : bytes_eq (number_text z) word ≡ true =
    (bytes_eq-Decides (number_text z) word).1 (sym is) in
    rw (same, canonical)

small-fits : (z : ℤ) → is_small z ≡ true → FitsSigned w64 z
small-fits (pos n) h = let low : n < 2 ^ 63 = grind (arith, nat_tests) in
    fits_signed_from_abs w64 (pos n) (omega arith)
small-fits (negsuc n) h = let low : n < 2 ^ 63 = grind (arith, nat_tests) in record { sfits = low }

fits-small : (z : ℤ) → FitsSigned w64 z → is_small z ≡ true
fits-small (pos n) fits = let low : n < 2 ^ 63 = omega (arith, fits.sfits) in
    grind (arith, nat_tests)
fits-small (negsuc n) fits = let low : n < 2 ^ 63 = omega (arith, fits.sfits) in
    grind (arith, nat_tests)

fits-wider : (z : ℤ) → FitsSigned w64 z → FitsSigned w128 z
fits-wider (pos n) fits = fits_signed_from_abs w128 (pos n) (omega (arith, fits.sfits))
fits-wider (negsuc n) fits = fits_signed_from_abs w128 (negsuc n) (omega (arith, fits.sfits))

-- an i64 is read of its decimal
pub i64_in-Some : (z : ℤ) → FitsSigned w64 z → i64_in (number_text z) ≡ Some z
i64_in-Some z fits =
    let little = fits-small z fits in
    i64_in-number (number_text z) z (fits-wider z fits) refl ∙ rw little

guarded : (a b : Bool) (x y : ℤ) → (if a then (if b then Some x else None) else None) ≡ Some y
    → (a ≡ true) × (b ≡ true) × (x ≡ y)
guarded true true x y h = (refl, refl, cc)
guarded true false x y h = absurd cc
guarded false b x y h = absurd cc

-- and only of that
pub Some-i64_in : (word : List ℕ) (z : ℤ) → i64_in word ≡ Some z
    → (word ≡ number_text z) × FitsSigned w64 z
unfolding i64_in
Some-i64_in word z h =
    let g = guarded (bytes_eq (number_text (guess word)) word) (is_small (guess word)) (guess word)
    z h in (
      sym ((bytes_eq-Decides (number_text (guess word)) word).0 g.0) ∙ ap number_text g.2,
      small-fits z (ap is_small (sym g.2) ∙ g.1),
    )

-- a word that spells no number
pub i64_in-none : (word : List ℕ) (read : Option ℤ)
    → ((z : ℤ) → FitsSigned w128 z → word ≡ number_text z → read ≡ Some z) → read ≡ None
    → i64_in word ≡ None
i64_in-none word read every was = by (i64_in word) refl
  where
    by : (r : Option ℤ) → i64_in word ≡ r → r ≡ None
    by None e = refl
    by (Some z) e =
        let is = Some-i64_in word z e in
        let some : None ≡ Some z = sym was ∙ every z (fits-wider z is.1) is.0 in cc

pub fits-natural : (n : ℕ) → n < 2 ^ 63 → FitsSigned w64 (pos n)
fits-natural n h = fits_signed_from_abs w64 (pos n) (omega arith)
