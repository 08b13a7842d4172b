-- In how many steps two lists agree (this project).
use Rattle.std.specs.Prelude.{◌≡◌, ◌≢◌, ◌≤◌, ℕ, List, length, take, Some, slice_get}
use Rattle.pct_ask.specs.declared.event.Event.{Event}

-- the first steps of both are the same, and the next ones, where both have one, are not
pub record IsAgreed (made told : List Event) (many : ℕ) : Type 0 where
  pub front : take many made ≡ take many told
  pub made_within : many ≤ length made
  pub told_within : many ≤ length told
  pub apart : (e f : Event) → slice_get made many ≡ Some e → slice_get told many ≡ Some f → e ≢ f
