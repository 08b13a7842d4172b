-- A thread's place is how many threads have a greater value.
use Rattle.std.proofs.Common.{◌≡◌, ℕ, ◌<◌, ◌≤◌, cond, nat_lt, List, length, get_or, arith}
use Rattle.std.specs.List.{count_by, remove}
use Rattle.std.proofs.lemmas.List.Sums.{sum_by-remove, sum_by-le-sum_by}
use Rattle.std.proofs.lemmas.Bool.Decides.{nat_tests}
use Rattle.rank_now.specs.Ranking.{place_by_value, AreDistinctValues, IsAtPlace}

-- what a value adds to the count of the values above another
abbrev counted : ℕ → ℕ → ℕ
counted value other = cond (nat_lt value other) 1 0

-- a lower value has no fewer values above it
above-le : (low high : ℕ) (values : List ℕ) → low ≤ high
    → count_by (nat_lt high) values ≤ count_by (nat_lt low) values
above-le low high values le =
    sum_by-le-sum_by (counted high) (counted low) values (λ x. grind (arith, nat_tests))

-- the value of a thread is not above itself, and is above each lower one
above-lt : (low : ℕ) (values : List ℕ) (thread : ℕ) → thread < length values
    → low < get_or values thread 0 → count_by (nat_lt (get_or values thread 0)) values
    < count_by (nat_lt low) values
above-lt low values thread within lower =
    let high = get_or values thread 0 in
    let others : count_by (nat_lt high) (remove values thread)
    ≤ count_by (nat_lt low) (remove values thread) =
    above-le low high (remove values thread) (omega arith) in
    let by_high = sum_by-remove (counted high) values thread 0 within in
    let by_low = sum_by-remove (counted low) values thread 0 within in
    let none : counted high high ≡ 0 = grind (arith, nat_tests) in
    let one : counted low high ≡ 1 = grind (arith, nat_tests) in
    omega arith

-- a thread of a greater value stands before one of a lower value
place-lt : (values : List ℕ) (first second : ℕ) → first < length values
    → get_or values second 0 < get_or values first 0
    → place_by_value values first < place_by_value values second
place-lt values first second within lower =
    above-lt (get_or values second 0) values first within lower

-- threads at one place are one
pub place-only : (values : List ℕ) (place first second : ℕ) → AreDistinctValues values
    → IsAtPlace values place first → IsAtPlace values place second → first ≡ second
place-only values place first second distinct at_first at_second =
    let same : get_or values first 0 ≡ get_or values second 0 =
    grind (
      arith,
      place-lt values first second at_first.within,
      place-lt values second first at_second.within,
      at_first.greater,
      at_second.greater,
    ) in
    distinct first second at_first.within at_second.within same
