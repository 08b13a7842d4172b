-- Two ways to give indices at steps, and two counts, order the threads alike where the indices come
-- at the same steps and
-- in the same order.
use Rattle.std.proofs.Common.{◌≡◌, ℕ, zero, suc, ◌+◌, ◌-◌, ◌<◌, ◌≤◌, Bool, cond, ◌&&◌, nat_lt, leb}
use Rattle.std.proofs.Common.{eqb, List, length, refl, sym, ap, ◌∙◌, arith, ne_eqb}
use Rattle.std.proofs.lemmas.Bool.{and_parts}
use Rattle.std.proofs.lemmas.Bool.Decides.{nat_tests}
use Rattle.rank_now.specs.Order.{IsOrder}
use Rattle.rank_now.specs.Positions.{passes_at}
use Rattle.rank_now.specs.Rank.{place_in_order, last_change, rank_by}
use Rattle.rank_now.proofs.laws.Orders.{place-within-order}
use Rattle.rank_now.proofs.laws.Positions.{greatest-le, greatest-agree, greatest-passes}

-- the indices come at the same steps, are in the same order, and are no greater than the counts
pub record GivenAlike (given given' : ℕ → ℕ) (count count' steps : ℕ) : Type 0 where
  pub some : (step : ℕ) → 0 < step → step ≤ steps → nat_lt 0 (given step) ≡ nat_lt 0 (given' step)
  pub low : (step : ℕ) → 0 < step → step ≤ steps → given step ≤ count
  pub low' : (step : ℕ) → 0 < step → step ≤ steps → given' step ≤ count'
  pub order : (first second : ℕ) → 0 < first → first ≤ steps → 0 < second → second ≤ steps
      → 0 < given first → 0 < given second
      → leb (given first) (given second) ≡ leb (given' first) (given' second)

module _ (given given' : ℕ → ℕ) (count count' : ℕ) (order schedule : List ℕ) (is : IsOrder order)
    (alike : GivenAlike given given' count count' (length schedule)) where
  last-same : (thread : ℕ) → last_change given' schedule thread ≡ last_change given schedule thread
  last-same thread =
      greatest-agree (λ step. passes_at (λ taker. eqb taker thread) schedule step
      && nat_lt 0 (given' step)) (λ step. passes_at (λ taker. eqb taker thread) schedule step
      && nat_lt 0 (given step)) (length schedule)
      (λ k low high. ap (λ b. passes_at (λ taker. eqb taker thread) schedule k && b)
      (sym (alike.some k low high)))

  last-le : (thread : ℕ) → last_change given schedule thread ≤ length schedule
  last-le thread =
      greatest-le (λ step. passes_at (λ taker. eqb taker thread) schedule step
      && nat_lt 0 (given step)) (length schedule)

  last-given : (thread : ℕ) → 0 < last_change given schedule thread
      → 0 < given (last_change given schedule thread)
  last-given thread some =
      let test : ℕ → Bool = λ step. passes_at (λ taker. eqb taker thread) schedule step
      && nat_lt 0 (given step) in
      let passes = greatest-passes test (length schedule) some in
      let both = and_parts (passes_at (λ taker. eqb taker thread) schedule
      (last_change given schedule thread))
      (nat_lt 0 (given (last_change given schedule thread))) passes in
      let second = both.1 in
      grind (arith, nat_tests)

  abbrev at : (ℕ → ℕ) → ℕ → ℕ → ℕ → ℕ
  at by many thread step =
      cond (eqb step 0) (many + length order - place_in_order order thread) (by step)

  at-suc : (by : ℕ → ℕ) (many thread k : ℕ) → at by many thread (suc k) ≡ by (suc k)
  at-suc by many thread k =
      ap (λ b. cond b (many + length order - place_in_order order thread) (by (suc k)))
      (ne_eqb (suc k) 0 (λ e. omega arith))

  leb-both : (a b c d x y : ℕ) → a ≡ c → b ≡ d → leb c d ≡ leb x y → leb a b ≡ leb x y
  leb-both a b c d x y e f g = (λ i. leb (e i) (f i)) ∙ g

  leb-shift : (m m' n p q : ℕ) → p < n → q < n
      → leb (m + n - p) (m + n - q) ≡ leb (m' + n - p) (m' + n - q)
  leb-shift m m' n p q small other = grind (arith, nat_tests)

  leb-low : (a b c d : ℕ) → b < a → d < c → leb a b ≡ leb c d
  leb-low a b c d p q = grind (arith, nat_tests)

  leb-high : (a b c d : ℕ) → a < b → c < d → leb a b ≡ leb c d
  leb-high a b c d p q = grind (arith, nat_tests)

  at-alike : (a b : ℕ) → a < length order → b < length order → (s t : ℕ) → s ≤ length schedule
      → t ≤ length schedule → (0 < s → 0 < given s) → (0 < t → 0 < given t)
      → leb (at given count a s) (at given count b t)
      ≡ leb (at given' count' a s) (at given' count' b t)
  at-alike a b pa pb zero zero ps pt ns nt =
      leb-shift count count' (length order) (place_in_order order a) (place_in_order order b)
      (place-within-order order is a pa) (place-within-order order is b pb)
  at-alike a b pa pb zero (suc t) ps pt ns nt =
      let place = place-within-order order is a pa in
      let low = alike.low (suc t) (omega arith) pt in
      let low' = alike.low' (suc t) (omega arith) pt in
      let one = at-suc given count b t in
      let two = at-suc given' count' b t in
      leb-low (count + length order - place_in_order order a) (at given count b (suc t))
      (count' + length order - place_in_order order a) (at given' count' b (suc t))
      (omega arith) (omega arith)
  at-alike a b pa pb (suc s) zero ps pt ns nt =
      let place = place-within-order order is b pb in
      let low = alike.low (suc s) (omega arith) ps in
      let low' = alike.low' (suc s) (omega arith) ps in
      let one = at-suc given count a s in
      let two = at-suc given' count' a s in
      leb-high (at given count a (suc s)) (count + length order - place_in_order order b)
      (at given' count' a (suc s)) (count' + length order - place_in_order order b)
      (omega arith) (omega arith)
  at-alike a b pa pb (suc s) (suc t) ps pt ns nt =
      (λ i. leb (at-suc given count a s i) (at-suc given count b t i))
      ∙ alike.order (suc s) (suc t) (omega arith) ps (omega arith) pt (ns (omega arith))
      (nt (omega arith))
      ∙ (λ i. leb (sym (at-suc given' count' a s) i) (sym (at-suc given' count' b t) i))

  rank-is : (thread : ℕ) → rank_by given count order schedule thread
      ≡ at given count thread (last_change given schedule thread)
  unfolding rank_by
  rank-is thread = refl

  rank-is' : (thread : ℕ) → rank_by given' count' order schedule thread
      ≡ at given' count' thread (last_change given schedule thread)
  unfolding rank_by
  rank-is' thread = ap (at given' count' thread) (last-same thread)

  -- Of any two threads both ways give the same one the greater rank.
  pub rank_by-alike : (a b : ℕ) → a < length order → b < length order
      → leb (rank_by given count order schedule a) (rank_by given count order schedule b)
      ≡ leb (rank_by given' count' order schedule a) (rank_by given' count' order schedule b)
  rank_by-alike a b pa pb =
      (λ i. leb (rank-is a i) (rank-is b i))
      ∙ at-alike a b pa pb (last_change given schedule a) (last_change given schedule b) (last-le a)
      (last-le b) (last-given a) (last-given b)
      ∙ (λ i. leb (sym (rank-is' a) i) (sym (rank-is' b) i))
