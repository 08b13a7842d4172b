-- What a pair gate was made for (this project): its two threads, and how many times each looks for
-- the other.
use Rattle.std.specs.Prelude.{ℕ}

-- the two threads that meet at a gate, and how many times each looks for the other
pub record GateState : Type 0 where
  pub one : ℕ
  pub other : ℕ
  pub turns : ℕ
