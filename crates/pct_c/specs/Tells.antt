-- What runs tell, as numbers that stand alone (this project).
use Rattle.std.specs.Prelude.{◌≡◌, ◌≢◌, ◌⊎◌, ◌<◌, ◌+◌, ◌*◌, ◌^◌, ℕ, List, length, Result, Ok, Err}
use Rattle.choices.specs.Orders.{low_orders}
use Rattle.c_values.specs.declared.refused.Refused.{Refused}
use Rattle.c_tells.specs.declared.locks.LocksTold.{LocksTold}
use Rattle.c_tells.specs.declared.locks.LocksTold.TheVariants.{Order, Cycle}
use Rattle.c_tells.specs.declared.locks.PctNesting.{PctNesting}
use Rattle.c_tells.specs.Orders.{AreFew, MayBound}
use Rattle.pct_c.specs.Buffers.{Puts, IsPutInRoom, refusal_status}
use Rattle.pct_c.specs.declared.status.PctCount.{PctCount}
use Rattle.pct_c.specs.declared.tells.PctBound.{PctBound}
use Rattle.pct_c.specs.declared.tells.PctLocks.{PctLocks}

-- Done: the count is that of the orders of the threads that place a given one last. Bad where there
-- are no threads or too many.
pub record CountsOrders (threads : ℕ) (counted : PctCount) : Type 0 where
  pub done : counted.status ≡ 0 → AreFew threads
      × ((low : ℕ) → low < threads → counted.count ≡ length (low_orders threads low))
  pub bad : counted.status ≡ 5 → ¬ AreFew threads × (counted.count ≡ 0)
  pub statuses : (counted.status ≡ 0) ⊎ (counted.status ≡ 5)

-- done: the bound is threads * steps^points, in two halves; bad where a number is out of range
pub record SaysBound (threads steps points : ℕ) (bound : PctBound) : Type 0 where
  pub done : bound.status ≡ 0 → MayBound threads steps points
      × (bound.low + 2 ^ 64 * bound.high ≡ threads * steps ^ points)
  pub bad : bound.status ≡ 5
      → ¬ MayBound threads steps points × (bound.low ≡ 0) × (bound.high ≡ 0)
  pub statuses : (bound.status ≡ 0) ⊎ (bound.status ≡ 5)

-- A report on the order of mutexes that is asked for. Kind 1: an order, in the first buffer. Kind
-- 2: a
-- cycle, in the second. Bad: there is no report. Where a list isn't put, its buffer is as it was.
pub record TellsLocks (Is : LocksTold → Type 0) (locks : PctLocks) (old_order new_order : List ℕ)
    (old_cycle new_cycle : List PctNesting) : Type 0 where
  pub order : locks.kind ≡ 1
      → Puts (λ list. Is (Order list)) locks.status locks.count old_order new_order
  pub cycle : locks.kind ≡ 2
      → Puts (λ list. Is (Cycle list)) locks.status locks.count old_cycle new_cycle
  pub none : locks.kind ≡ 0 → ((locks.status ≡ 5) ⊎ (locks.status ≡ 6)) × (locks.count ≡ 0)
  pub bad : locks.status ≡ 5 → (told : LocksTold) → ¬ Is told
  pub kinds : (locks.kind ≡ 0) ⊎ ((locks.kind ≡ 1) ⊎ (locks.kind ≡ 2))
  pub no_order : locks.kind ≢ 1 → new_order ≡ old_order
  pub no_cycle : locks.kind ≢ 2 → new_cycle ≡ old_cycle

-- what became of a report that was told, or of a refusal
abbrev pub IsLocksPut : Result LocksTold Refused → PctLocks → List ℕ → List ℕ → List PctNesting
    → List PctNesting → Type 0
IsLocksPut (Ok (Order list)) locks old_order new_order old_cycle new_cycle =
    (locks.kind ≡ 1) × IsPutInRoom (Ok list) locks.status locks.count old_order new_order
    × (new_cycle ≡ old_cycle)
IsLocksPut (Ok (Cycle list)) locks old_order new_order old_cycle new_cycle =
    (locks.kind ≡ 2) × IsPutInRoom (Ok list) locks.status locks.count old_cycle new_cycle
    × (new_order ≡ old_order)
IsLocksPut (Err why) locks old_order new_order old_cycle new_cycle =
    (locks.kind ≡ 0) × (locks.status ≡ refusal_status why) × (locks.count ≡ 0)
    × (new_order ≡ old_order) × (new_cycle ≡ old_cycle)
