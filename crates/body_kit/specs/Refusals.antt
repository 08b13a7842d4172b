-- When a test is refused (this project).
use Rattle.std.specs.Prelude.{◌≡◌, ℕ, List, length}
use Rattle.rank_now.specs.Order.{IsFirstWrong}
use Rattle.rank_now.specs.declared.order.RankError.{RankError}
use Rattle.rank_now.specs.declared.order.RankError.TheVariants as ranks
use Rattle.body_kit.specs.declared.error.KitError.{KitError}
use Rattle.body_kit.specs.declared.error.KitError.TheVariants.{NotAnOrder, NoMemory}

-- there is a body and a place in the order for each thread
pub record CountsFit (threads bodies : ℕ) (order : List ℕ) : Type 0 where
  pub bodies_fit : bodies ≡ threads
  pub order_fits : length order ≡ threads

-- what is told where they don't fit: how many bodies there are, and how many names
pub record IsWrongCount (threads bodies : ℕ) (order : List ℕ) (had named : ℕ) : Type 0 where
  pub wrong : ¬ CountsFit threads bodies order
  pub had_is : had ≡ bodies
  pub named_is : named ≡ length order

-- they fit, and the thread at the place is the first that there isn't or that was named before
pub record IsWrongOrder (threads bodies : ℕ) (order : List ℕ) (at : ℕ) : Type 0 where
  pub fits : CountsFit threads bodies order
  pub first : IsFirstWrong order at

-- the same error, for a test
abbrev pub as_kit_error : RankError → KitError
as_kit_error (ranks.NotAnOrder at) = NotAnOrder at
as_kit_error ranks.NoMemory = NoMemory
