-- How many orders there are of so many threads.
use Rattle.std.proofs.Common.{◌≡◌, ℕ, zero, suc, ◌+◌, ◌-◌, ◌*◌, ◌<◌, ◌≤◌, ap, subst, ◌∙◌, arith}
use Rattle.choices.specs.Orders.{factorial}

-- there is one at least
pub some-orders : (n : ℕ) → 0 < factorial n
some-orders zero = omega arith
some-orders (suc n) = let rest = some-orders n in
    let product : suc n * factorial n ≡ factorial n + n * factorial n = grind arith in
    omega (arith, rest, product)

factorial-rises : (n more : ℕ) → factorial n ≤ factorial (more + n)
factorial-rises n zero = let e : n ≡ 0 + n = omega arith in
    let same = ap factorial e in omega arith
factorial-rises n (suc more) =
    let rest = factorial-rises n more in
    let product : suc (more + n) * factorial (more + n)
    ≡ factorial (more + n) + (more + n) * factorial (more + n) = grind arith in
    let same : factorial (suc more + n) ≡ factorial (suc (more + n)) =
    ap factorial (let e : suc more + n ≡ suc (more + n) = omega arith in e) in
    omega arith

-- one thread more
pub more-orders : (fewer : ℕ) → factorial (fewer + 1) ≡ factorial fewer * (fewer + 1)
more-orders fewer =
    ap factorial (let e : fewer + 1 ≡ suc fewer = omega arith in e)
    ∙ (let e : suc fewer * factorial fewer ≡ factorial fewer * (fewer + 1) = grind arith in e)

-- more threads have no fewer orders
pub fewer-orders : (threads more : ℕ) → threads ≤ more → factorial threads ≤ factorial more
fewer-orders threads more within =
    let P : ℕ → Type 0 = λ n. factorial threads ≤ factorial n in
    subst P (let e : more - threads + threads ≡ more = omega arith in e)
    (factorial-rises threads (more - threads))
