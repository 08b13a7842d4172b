-- Orders of all threads (this project).
use Rattle.std.specs.Prelude.{◌≡◌, ℕ, List, length}
use Rattle.rank_now.specs.Order.{IsOrder}

-- all threads, each once
pub record IsWholeOrder (threads : ℕ) (order : List ℕ) : Type 0 where
  pub is : IsOrder order
  pub whole : length order ≡ threads
