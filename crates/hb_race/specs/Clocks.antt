-- Vector clocks (Mattern, Fidge) by plain recursion over the steps.
use Rattle.std.specs.Prelude.{◌≡◌, ℕ, zero, suc, ◌<◌, ◌≤◌, max, true, ◌==◌, if◌then◌else◌, List, []}
use Rattle.std.specs.Prelude.{◌∷◌, ◌↔◌}
use Rattle.hb_race.specs.Order.{Steps, Before, BeforeOrSame}

-- how many of the first n steps are the thread's
abbrev pub own_count : {O : Type 0} → Steps O → ℕ → ℕ → ℕ
own_count s u zero = 0
own_count s u (suc n) = if s.thread n == u then suc (own_count s u n) else own_count s u n

-- a step's number among its thread's own, from 1
abbrev pub own : {O : Type 0} → Steps O → ℕ → ℕ
own s i = suc (own_count s (s.thread i) i)

-- the greatest entry for u of some objects' clocks
abbrev pub greatest_of : {O : Type 0} → (O → ℕ → ℕ) → ℕ → List O → ℕ
greatest_of clock u [] = 0
greatest_of clock u (o ∷ os) = max (clock o u) (greatest_of clock u os)

-- the clock of step n, where the objects have these clocks before it
abbrev pub stamp_by : {O : Type 0} → Steps O → ℕ → (O → ℕ → ℕ) → ℕ → ℕ
stamp_by s n clock u =
    if s.thread n == u then suc (own_count s u n) else greatest_of clock u (s.takes n)

-- the objects' clocks after n steps
abbrev pub clocks : {O : Type 0} → Steps O → ℕ → O → ℕ → ℕ
clocks s zero o u = 0
clocks s (suc n) o u =
    if s.gives n o then max (clocks s n o u) (stamp_by s n (clocks s n) u) else clocks s n o u

abbrev pub stamp : {O : Type 0} → Steps O → ℕ → ℕ → ℕ
stamp s n u = stamp_by s n (clocks s n) u

-- some of the first n steps gave to the object, and the step i is it or before it
abbrev pub Reaches : {O : Type 0} → Steps O → ℕ → ℕ → O → Type 0
Reaches s n i o = (g : ℕ) × (g < n) × (s.gives g o ≡ true) × BeforeOrSame s i g

-- What the clocks after n steps mean: an entry counts steps of its thread, and it is at least a
-- step's own number exactly where that step reaches the object.
pub record Mean {O : Type 0} (s : Steps O) (n : ℕ) : Type 0 where
  pub bound : (o : O) (u : ℕ) → clocks s n o u ≤ own_count s u n
  pub reach : (o : O) (i : ℕ) → i < n → own s i ≤ clocks s n o (s.thread i) → Reaches s n i o
  pub reached : (o : O) (i : ℕ) → i < n → Reaches s n i o → own s i ≤ clocks s n o (s.thread i)

-- the law that a comparison of clocks needs
abbrev pub OrdersByClocks : {O : Type 0} → Steps O → ℕ → ℕ → Type 0
OrdersByClocks s i j = (own s i ≤ stamp s j (s.thread i)) ↔ Before s i j
