-- Numbers of choices fit their types.
use Rattle.std.proofs.Common.{◌≡◌, ℕ, suc, ◌+◌, ◌-◌, ◌*◌, ◌^◌, ◌<◌, ◌≤◌, sym, ap, ◌∙◌}
use Rattle.std.proofs.Common.{arith}
use Rattle.std.proofs.Math.Nat.{pow-suc, pow-le-pow_left, pow-le-pow_right, mul-le-mul_left}
use Rattle.choices.specs.Orders.{factorial}
use Rattle.choices.proofs.laws.Factorials.{more-orders, fewer-orders}

-- ---- the bound

pub bound-small : (threads steps points i bound : ℕ) → threads ≤ 16 → steps ≤ 100000 → points ≤ 7
    → i < points → bound ≡ threads * steps ^ i → bound * steps < 2 ^ 128
bound-small threads steps points i bound few small short within is =
    let power : steps ^ i ≤ 100000 ^ i = pow-le-pow_left small i in
    let most : 100000 ^ i ≤ 100000 ^ 6 =
    pow-le-pow_right {n = 100000} (omega arith) {i = i} {j = 6} (omega arith) in
    let less : threads * steps ^ i ≤ threads * 100000 ^ 6 = mul-le-mul_left threads (omega arith) in
    let lesser : bound ≤ 16 * 100000 ^ 6 = omega arith in
    let product : bound * steps ≤ bound * 100000 = mul-le-mul_left bound small in
    omega arith

pub bound-more : (threads steps i bound : ℕ) → bound ≡ threads * steps ^ i
    → bound * steps ≡ threads * steps ^ (i + 1)
bound-more threads steps i bound is =
    ap (λ b. b * steps) is
    ∙ regrouped (steps ^ i)
    ∙ ap (λ p. threads * p) (sym (pow-suc steps i)
    ∙ ap (λ n. steps ^ n) (let e : suc i ≡ i + 1 = omega arith in e))
  where
    regrouped : (p : ℕ) → threads * p * steps ≡ threads * (p * steps)
    regrouped p = grind arith

-- ---- the number of orders

pub count-more : (fewer count : ℕ) → count ≡ factorial fewer
    → count * (fewer + 1) ≡ factorial (fewer + 1)
count-more fewer count is = ap (λ c. c * (fewer + 1)) is ∙ sym (more-orders fewer)

pub count-small : (threads fewer count : ℕ) → threads ≤ 12 → fewer < threads
    → count ≡ factorial fewer → count * (fewer + 1) < 2 ^ 32
count-small threads fewer count few within is =
    let most : factorial (fewer + 1) ≤ 479001600 = fewer-orders (fewer + 1) 12 (omega arith) in
    omega (arith, most, count-more fewer count is)
