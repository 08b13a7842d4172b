-- A number's canonical decimal is read as the number where it is in range, and nothing else is.
use Rattle.std.specs.Prelude.{◌&&◌, nat_le, decimal, if◌then◌else◌}
use Rattle.std.specs.Str.{bytes_eq}
use Rattle.std.specs.Str.Parse.{digits_value}
use Rattle.std.proofs.Common.{◌≡◌, ℕ, ◌<◌, ◌≤◌, ◌^◌, Bool, true, false, List, Some, None}
use Rattle.std.proofs.Common.{refl, sym, ap, ◌∙◌, arith}
use Rattle.std.proofs.lemmas.Fmt.{decimal_is_IsNumeral_wide}
use Rattle.std.proofs.lemmas.Bool.Decides.{nat_tests}
use Rattle.std.proofs.lemmas.Slice.Eq.{bytes_eq-Decides}
use Rattle.pct_ask.specs.Numbers.{within, number_in}

-- a number's decimal is read as the number, where it is in range
pub number_in-within : (low high n : ℕ) (word : List ℕ) → n < 2 ^ 127 → word ≡ decimal n
    → number_in low high word ≡ within low high n
unfolding number_in
number_in-within low high n word small is =
    let k = decimal_is_IsNumeral_wide n (omega arith) in
    let value : digits_value 10 word ≡ n = ap (digits_value 10) is ∙ k.1 in
    let canonical : bytes_eq (decimal n) word ≡ true =
    (bytes_eq-Decides (decimal n) word).1 (sym is)
    in
    rw (value, canonical)

within-known : (low high n : ℕ) → low ≤ n → n ≤ high → within low high n ≡ Some n
within-known low high n above below =
    let a : nat_le low n ≡ true = grind (arith, nat_tests) in
    let b : nat_le n high ≡ true = grind (arith, nat_tests) in
    rw (a, b)

-- the decimal of a number in range is read as it
pub number_in-decimal : (low high n : ℕ) (word : List ℕ) → low ≤ n → n ≤ high → high < 2 ^ 127
    → word ≡ decimal n → number_in low high word ≡ Some n
number_in-decimal low high n word above below small is =
    number_in-within low high n word (omega arith) is ∙ within-known low high n above below

at-least : (low m n : ℕ) → nat_le low m ≡ true → m ≡ n → low ≤ n
at-least low m n h e = let least : low ≤ m = grind (arith, nat_tests) in omega (arith, least, e)

at-most : (high m n : ℕ) → nat_le m high ≡ true → m ≡ n → n ≤ high
at-most high m n h e = let most : m ≤ high = grind (arith, nat_tests) in omega (arith, most, e)

tests-pass : (a b c : Bool) (m n : ℕ)
    → (if a then (if b && c then Some m else None) else None) ≡ Some n
    → (a ≡ true) × (b ≡ true) × (c ≡ true) × (m ≡ n)
tests-pass true true true m n h = (refl, refl, refl, cc)
tests-pass true true false m n h = absurd cc
tests-pass true false c m n h = absurd cc
tests-pass false b c m n h = absurd cc

-- a word that is read as a number in range is its decimal
pub number_in-Some : (low high n : ℕ) (word : List ℕ) → number_in low high word ≡ Some n
    → (low ≤ n) × (n ≤ high) × (word ≡ decimal n)
unfolding number_in
number_in-Some low high n word h =
    let m = digits_value 10 word in
    let t =
    tests-pass (bytes_eq (decimal m) word) (nat_le low m) (nat_le m high) m n h in (
      at-least low m n t.1 t.3,
      at-most high m n t.2 t.3,
      sym ((bytes_eq-Decides (decimal m) word).0 t.0) ∙ ap decimal t.3,
    )
