-- Reports on the order in which mutexes are nested that are good: an order that all nestings keep,
-- or a cycle of nestings that no order can keep (this project).
use Rattle.std.specs.Prelude.{◌≡◌, ◌≢◌, ◌+◌, ◌-◌, ◌<◌, ℕ, List, length, Some, slice_get}
use Rattle.std.specs.Prelude.{slice_index}
use Rattle.std.specs.List.{Contains}
use Rattle.pct_ask.specs.declared.event.Event.{Event}
use Rattle.lock_order.specs.declared.nesting.Nesting.{Nesting}
use Rattle.lock_order.specs.declared.report.LockReport.{LockReport}
use Rattle.lock_order.specs.declared.report.LockReport.TheVariants.{Order, Cycle}
use Rattle.lock_order.specs.Nestings.{IsNesting}

-- no number stands in the list twice
abbrev pub NamesNoneTwice : List ℕ → Type 0
NamesNoneTwice numbers = (first second : ℕ) → first < second → second < length numbers →
    slice_index numbers first ≢ slice_index numbers second

-- the list names every number below the count once, and nothing else
pub record ListsEachOnce (count : ℕ) (order : List ℕ) : Type 0 where
  pub below : (place : ℕ) → place < length order → slice_index order place < count
  pub once : NamesNoneTwice order
  pub all : (mutex : ℕ) → mutex < count → Contains order mutex

-- the one mutex stands in the list before the other
pub record StandsBefore (order : List ℕ) (held taken : ℕ) : Type 0 where
  pub first : ℕ
  pub second : ℕ
  pub rising : first < second
  pub within : second < length order
  pub held_there : slice_index order first ≡ held
  pub taken_there : slice_index order second ≡ taken

-- every mutex of the deal stands in the order once, and what is held stands before what is taken
pub record IsGoodOrder (mutexes : ℕ) (events : List Event) (order : List ℕ) : Type 0 where
  pub each : ListsEachOnce mutexes order
  pub kept : (nesting : Nesting) → IsNesting events nesting →
      StandsBefore order nesting.held nesting.taken

-- nestings of which each takes what the next one holds, and the last what the first one holds
pub record IsGoodCycle (events : List Event) (cycle : List Nesting) : Type 0 where
  pub some : 0 < length cycle
  pub nested : (place : ℕ) (nesting : Nesting) → slice_get cycle place ≡ Some nesting →
      IsNesting events nesting
  pub joined : (place : ℕ) (nesting next : Nesting) → slice_get cycle place ≡ Some nesting →
      slice_get cycle (place + 1) ≡ Some next → nesting.taken ≡ next.held
  pub closed : (last first : Nesting) → slice_get cycle (length cycle - 1) ≡ Some last →
      slice_get cycle 0 ≡ Some first → last.taken ≡ first.held

-- the report is good for a test of that many mutexes and these events
abbrev pub IsGood : ℕ → List Event → LockReport → Type 0
IsGood mutexes events (Order order) = IsGoodOrder mutexes events order
IsGood mutexes events (Cycle cycle) = IsGoodCycle events cycle

-- the report is a cycle
abbrev pub IsCycle : LockReport → Type 0
IsCycle (Order order) = ⊥
IsCycle (Cycle cycle) = Unit {0}
