-- Chains of edges are the least transitive relation over the edges.
use Rattle.std.proofs.Common.{◌≡◌, ℕ, zero, suc, ◌<◌, true, refl, arith, inl, inr, sym, subst}
use Rattle.hb_race.specs.Order.{Steps, HasLines, Edge, Chain, Before, BeforeOrSame}

pub edge-before : {O : Type 0} (s : Steps O) (i j : ℕ) → Edge s i j → Before s i j
edge-before s i j e = (0, e)

pub chain-rises : {O : Type 0} (s : Steps O) (i j n : ℕ) → Chain s i j n → i < j
chain-rises s i j zero e = e.0
chain-rises s i j (suc n) c = let low = chain-rises s i c.0 n c.1 in let high = (c.2).0 in
    omega arith

pub before-rises : {O : Type 0} (s : Steps O) (i j : ℕ) → Before s i j → i < j
before-rises s i j b = chain-rises s i j b.0 b.1

pub before-edge : {O : Type 0} (s : Steps O) (i k j : ℕ) → Before s i k → Edge s k j → Before s i j
before-edge s i k j b e = (suc b.0, (k, b.1, e))

pub before-chain : {O : Type 0} (s : Steps O) (i k j n : ℕ) → Before s i k → Chain s k j n
    → Before s i j
before-chain s i k j zero b e = before-edge s i k j b e
before-chain s i k j (suc n) b c = before-edge s i c.0 j (before-chain s i k c.0 n b c.1) c.2

pub before-trans : {O : Type 0} (s : Steps O) (i k j : ℕ) → Before s i k → Before s k j
    → Before s i j
before-trans s i k j b c = before-chain s i k j c.0 b c.1

-- it lies in each transitive relation that has the edges
pub chain-least : {O : Type 0} (s : Steps O) (R : ℕ → ℕ → Type 0) → ((a b : ℕ) → Edge s a b → R a b)
    → ((a b c : ℕ) → R a b → R b c → R a c) → (i j n : ℕ) → Chain s i j n → R i j
chain-least s R has trans i j zero e = has i j e
chain-least s R has trans i j (suc n) c =
    trans i c.0 j (chain-least s R has trans i c.0 n c.1) (has c.0 j c.2)

-- the last edge of a chain
pub last-edge : {O : Type 0} (s : Steps O) (i j n : ℕ) → Chain s i j n
    → (k : ℕ) × BeforeOrSame s i k × Edge s k j
last-edge s i j zero e = (i, inl refl, e)
last-edge s i j (suc n) c = (c.0, inr (n, c.1), c.2)

pub same-or-edge : {O : Type 0} (s : Steps O) (i k j : ℕ) → BeforeOrSame s i k → Edge s k j
    → Before s i j
same-or-edge s i k j (inl same) e = (0, subst (λ x. Edge s x j) (sym same) e)
same-or-edge s i k j (inr b) e = before-edge s i k j b e

-- two steps of one thread
pub own-edge : {O : Type 0} (s : Steps O) → HasLines s → (i j : ℕ) → i < j → s.thread i ≡ s.thread j
    → Edge s i j
own-edge s lines i j low same = (
  low,
  s.line (s.thread j),
  lines.takes j,
  subst (λ t. s.gives i (s.line t) ≡ true) same (lines.gives i),
)
