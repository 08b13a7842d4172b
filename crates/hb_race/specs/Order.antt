-- Steps of threads on shared objects, and the order that they make.
use Rattle.std.specs.Prelude.{◌≡◌, ℕ, zero, suc, ◌<◌, Bool, true, List, [], ◌∷◌, ◌⊎◌}

-- A run as its steps act on objects. A step takes what the objects of its list have, and gives to
-- each object for which `gives` is true. `line t` is the object that stands for the thread t.
pub record Steps (O : Type 0) : Type 0 where
  pub thread : ℕ → ℕ
  pub takes : ℕ → List O
  pub gives : ℕ → O → Bool
  pub line : ℕ → O

abbrev pub Among : {O : Type 0} → List O → O → Type 0
Among [] o = ⊥
Among (x ∷ xs) o = (x ≡ o) ⊎ Among xs o

-- each step takes from its own thread, and gives to it
pub record HasLines {O : Type 0} (s : Steps O) : Type 0 where
  pub takes : (j : ℕ) → Among (s.takes j) (s.line (s.thread j))
  pub gives : (i : ℕ) → s.gives i (s.line (s.thread i)) ≡ true

-- the earlier step gives to an object from which the later one takes
abbrev pub Edge : {O : Type 0} → Steps O → ℕ → ℕ → Type 0
Edge {O} s i j = (i < j) × (o : O) × Among (s.takes j) o × (s.gives i o ≡ true)

-- a chain of n edges and one more
abbrev pub Chain : {O : Type 0} → Steps O → ℕ → ℕ → ℕ → Type 0
Chain s i j zero = Edge s i j
Chain s i j (suc n) = (k : ℕ) × Chain s i k n × Edge s k j

abbrev pub Before : {O : Type 0} → Steps O → ℕ → ℕ → Type 0
Before s i j = (n : ℕ) × Chain s i j n

abbrev pub BeforeOrSame : {O : Type 0} → Steps O → ℕ → ℕ → Type 0
BeforeOrSame s i j = (i ≡ j) ⊎ Before s i j
