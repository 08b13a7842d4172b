-- Sets of mutexes by bits, and what is kept in them of a list of events.
use Rattle.std.specs.Prelude.{◌≡◌, ◌<◌, ◌↔◌, ℕ, suc, List, length, Some, slice_get, slice_index_or}
use Rattle.std.specs.Prelude.{drop}
use Rattle.std.specs.Int.{bit_at}
use Rattle.pct_ask.specs.declared.event.Event.{Event}
use Rattle.lock_order.specs.declared.mutex_set.MutexSet.{MutexSet}
use Rattle.lock_order.specs.Nestings.{HoldsMutex}
use Rattle.lock_order.specs.declared.nesting.Nesting.{Nesting}
use Rattle.lock_order.specs.Chosen.{AreNested, IsWalk, IsRing, AreNestingsOf}
use Rattle.pct_ask.specs.declared.limits.TheConstants.{MAX_OBJECTS}

-- a mutex is in the set: its bit is 1
pub record HasMutex (set : MutexSet) (mutex : ℕ) : Type 0 where
  pub small : mutex < MAX_OBJECTS
  pub bit : bit_at set.bits mutex ≡ 1

-- the set has the mutexes of which something holds
abbrev pub HasThose : MutexSet → (ℕ → Type 0) → Type 0
HasThose set P = (mutex : ℕ) → HasMutex set mutex ↔ P mutex

-- for each step, from place 0, the mutexes that its thread holds before it
pub record AreHeldSets (events : List Event) (sets : List MutexSet) : Type 0 where
  pub whole : length sets ≡ length events
  pub each : (place : ℕ) (event : Event) (set : MutexSet) → slice_get events place ≡ Some event →
      slice_get sets place ≡ Some set →
      HasThose set (λ mutex. HoldsMutex events event.thread mutex (suc place))

-- for each mutex those that are held where it is taken
pub record AreNestedSets (events : List Event) (sets : List MutexSet) : Type 0 where
  pub whole : length sets ≡ MAX_OBJECTS
  pub each : (taken : ℕ) (set : MutexSet) → slice_get sets taken ≡ Some set →
      HasThose set (λ held. AreNested events held taken)

-- the set of those that are held where the mutex is taken
abbrev pub set_where : List MutexSet → ℕ → MutexSet
set_where nested taken = slice_index_or nested taken (record { bits = 0 })

-- a mutex remains, and of those that remain none is held where it is taken
pub record IsFreeIn (nested : List MutexSet) (remaining : MutexSet) (mutex : ℕ) : Type 0 where
  pub remains : HasMutex remaining mutex
  pub free : (held : ℕ) → HasMutex (set_where nested mutex) held → ¬ HasMutex remaining held

-- a mutex that remains is held where the other is taken
abbrev pub IsHeldIn : List MutexSet → MutexSet → ℕ → ℕ → Type 0
IsHeldIn nested remaining taken held =
    HasMutex (set_where nested taken) held × HasMutex remaining held

-- the cycle that the walk through those that remain ends in
pub record IsCycleIn (events : List Event) (nested : List MutexSet) (remaining : MutexSet)
    (cycle : List Nesting) : Type 0 where
  pub walk : List ℕ
  pub back : ℕ
  pub ring : List ℕ
  pub walked : IsWalk (HasMutex remaining) (IsHeldIn nested remaining) walk back
  pub turned : IsRing (drop back walk) ring
  pub nestings : AreNestingsOf events ring cycle
