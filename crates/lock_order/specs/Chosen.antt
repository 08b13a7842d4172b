-- The one report that is given on the order in which mutexes are nested, of the many that are good
-- (this project).
use Rattle.std.specs.Prelude.{◌≡◌, ◌+◌, ◌-◌, ◌<◌, ◌≤◌, ◌==◌, ◌++◌, ℕ, List, length, take, drop}
use Rattle.std.specs.Prelude.{reverse, if◌then◌else◌, Some, slice_get, slice_index}
use Rattle.std.specs.List.{Contains}
use Rattle.pct_ask.specs.declared.event.Event.{Event}
use Rattle.lock_order.specs.declared.nesting.Nesting.{Nesting}
use Rattle.lock_order.specs.declared.report.LockReport.{LockReport}
use Rattle.lock_order.specs.declared.report.LockReport.TheVariants.{Order, Cycle}
use Rattle.lock_order.specs.Nestings.{IsNesting}
use Rattle.lock_order.specs.Good.{NamesNoneTwice}

-- the nesting is one of this pair of mutexes
pub record IsOfPair (events : List Event) (held taken : ℕ) (nesting : Nesting) : Type 0 where
  pub nested : IsNesting events nesting
  pub held_is : nesting.held ≡ held
  pub taken_is : nesting.taken ≡ taken

-- some nesting has the one mutex as held and the other as taken
abbrev pub AreNested : List Event → ℕ → ℕ → Type 0
AreNested events held taken = (nesting : Nesting) × IsOfPair events held taken nesting

-- the nesting of least step for the pair
pub record IsFirstOfPair (events : List Event) (held taken : ℕ) (nesting : Nesting) : Type 0 where
  pub nested : IsOfPair events held taken nesting
  pub least : (other : Nesting) → IsOfPair events held taken other → nesting.step ≤ other.step

-- the lowest number of which something holds
pub record IsLowest (P : ℕ → Type 0) (number : ℕ) : Type 0 where
  pub holds : P number
  pub lowest : (lower : ℕ) → lower < number → ¬ P lower

-- a mutex of the test is none of those that were taken out
pub record Remains (mutexes : ℕ) (out : List ℕ) (mutex : ℕ) : Type 0 where
  pub below : mutex < mutexes
  pub left : ¬ Contains out mutex

-- a mutex remains, and no nesting with a remaining `held` has it as `taken`
pub record IsFree (mutexes : ℕ) (events : List Event) (out : List ℕ) (mutex : ℕ) : Type 0 where
  pub remains : Remains mutexes out mutex
  pub free : (held : ℕ) → Remains mutexes out held → ¬ AreNested events held mutex

-- the mutexes that are taken out one by one, each time the lowest free one, until none is free
pub record AreTakenOut (mutexes : ℕ) (events : List Event) (out : List ℕ) : Type 0 where
  pub each : (place : ℕ) → place < length out →
      IsLowest (IsFree mutexes events (take place out)) (slice_index out place)
  pub end : (mutex : ℕ) → ¬ IsFree mutexes events out mutex

-- a mutex that remains is held where a nesting takes the other
pub record IsHeldWhere (mutexes : ℕ) (events : List Event) (out : List ℕ) (taken held : ℕ)
    : Type 0 where
  pub remains : Remains mutexes out held
  pub nested : AreNested events held taken

-- The walk begins at the lowest mutex that is left and goes from each mutex to the lowest one that
-- is held where it is taken. Its mutexes differ, and from the last one it would go back to the one
-- at the place `back`.
pub record IsWalk (IsLeft : ℕ → Type 0) (IsHeldAt : ℕ → ℕ → Type 0) (walk : List ℕ) (back : ℕ) :
    Type 0 where
  pub begins : IsLowest IsLeft (slice_index walk 0)
  pub goes : (place : ℕ) → place + 1 < length walk →
      IsLowest (IsHeldAt (slice_index walk place)) (slice_index walk (place + 1))
  pub once : NamesNoneTwice walk
  pub within : back < length walk
  pub repeats : IsLowest (IsHeldAt (slice_index walk (length walk - 1))) (slice_index walk back)

-- the ring is the part of the walk, read backwards and begun at its lowest mutex
pub record IsRing (part ring : List ℕ) : Type 0 where
  pub turn : ℕ
  pub within : turn < length part
  pub turned : ring ≡ drop turn (reverse part) ++ take turn (reverse part)
  pub lowest : (place : ℕ) → place < length ring → slice_index ring 0 ≤ slice_index ring place

-- the mutex after a place of the ring, after whose last place comes its first
abbrev pub next_in_ring : List ℕ → ℕ → ℕ
next_in_ring ring place = slice_index ring (if place + 1 == length ring then 0 else place + 1)

-- the first nestings of each mutex of the ring with the next one
pub record AreNestingsOf (events : List Event) (ring : List ℕ) (cycle : List Nesting) : Type 0 where
  pub whole : length cycle ≡ length ring
  pub each : (place : ℕ) (nesting : Nesting) → slice_get cycle place ≡ Some nesting →
      IsFirstOfPair events (slice_index ring place) (next_in_ring ring place) nesting

-- the order of taking out, where all mutexes are taken out
pub record IsChosenOrder (mutexes : ℕ) (events : List Event) (order : List ℕ) : Type 0 where
  pub taken_out : AreTakenOut mutexes events order
  pub all : (mutex : ℕ) → ¬ Remains mutexes order mutex

-- else the cycle that the walk through those that remain ends in
pub record IsChosenCycle (mutexes : ℕ) (events : List Event) (cycle : List Nesting) : Type 0 where
  pub out : List ℕ
  pub walk : List ℕ
  pub back : ℕ
  pub ring : List ℕ
  pub taken_out : AreTakenOut mutexes events out
  pub walked : IsWalk (Remains mutexes out) (IsHeldWhere mutexes events out) walk back
  pub turned : IsRing (drop back walk) ring
  pub nestings : AreNestingsOf events ring cycle

-- the report that is given for a test of that many mutexes and these events
abbrev pub IsChosen : ℕ → List Event → LockReport → Type 0
IsChosen mutexes events (Order order) = IsChosenOrder mutexes events order
IsChosen mutexes events (Cycle cycle) = IsChosenCycle mutexes events cycle
