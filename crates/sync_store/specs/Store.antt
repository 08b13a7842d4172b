-- What the threads of a test share, between two steps (POSIX threads' objects, as this project sees
-- them).
use Rattle.std.specs.Prelude.{ℕ, ℤ, pos, Bool, List, [], length, map, replicate, Option, None}
use Rattle.std.specs.Prelude.{slice_index_or, slice_set, nat_eq}
use Rattle.std.specs.Set.{is_member}
use Rattle.pct_ask.specs.declared.Deal.{Deal}
use Rattle.pct_ask.specs.Objects.{Sizes}

-- a condition: the threads that wait for a signal, the longest first, and those that were woken and
-- haven't taken their mutex again
pub record ConditionState : Type 0 where
  pub waiting : List ℕ
  pub woken : List ℕ

-- a thread that a barrier has let through, and whether it is the serial one (POSIX's
-- PTHREAD_BARRIER_SERIAL_THREAD)
pub record Release : Type 0 where
  pub thread : ℕ
  pub serial : Bool

-- a barrier: how many threads meet at it, those that have arrived, and those that are let through
-- and haven't left
pub record BarrierState : Type 0 where
  pub count : ℤ
  pub arrived : List ℕ
  pub released : List Release

-- a read-write lock: its writer, and how many read holds each thread has
pub record RwLockState : Type 0 where
  pub writer : Option ℕ
  pub reads : List ℕ

-- The store. Threads and objects are named by their places, from 0. No step changes `threads` or a
-- barrier's count.
pub record StoreState : Type 0 where
  pub threads : ℕ
  pub values : List ℤ
  pub owners : List (Option ℕ)
  pub conditions : List ConditionState
  pub numbers : List ℤ
  pub barriers : List BarrierState
  pub started : List ℕ
  pub rwlocks : List RwLockState

-- a condition that nobody waits for, and from which nobody was woken
abbrev pub new_condition : ConditionState
new_condition = record { waiting = []; woken = [] }

-- a barrier at which so many threads meet, and nobody has arrived
abbrev pub new_barrier : ℤ → BarrierState
new_barrier count = record { count = count; arrived = []; released = [] }

-- a read-write lock that none of so many threads holds
abbrev pub new_rwlock : ℕ → RwLockState
new_rwlock threads = record { writer = None; reads = replicate threads 0 }

-- the store at the start: the declared values, and nothing owned, awaited, started or held
abbrev pub first_store : Deal → StoreState
first_store deal = record {
  threads = deal.threads;
  values = deal.vars;
  owners = replicate deal.mutexes None;
  conditions = replicate deal.conds new_condition;
  numbers = deal.sems;
  barriers = map new_barrier deal.barriers;
  started = [];
  rwlocks = replicate deal.rwlocks (new_rwlock deal.threads);
}

-- the value of a variable
abbrev pub variable_value : StoreState → ℕ → ℤ
variable_value store x = slice_index_or store.values x (pos 0)

-- the thread that owns a mutex, if one does
abbrev pub owner_of : StoreState → ℕ → Option ℕ
owner_of store m = slice_index_or store.owners m None

-- who waits for a condition, and who was woken
abbrev pub condition_of : StoreState → ℕ → ConditionState
condition_of store c = slice_index_or store.conditions c new_condition

-- the value of a semaphore
abbrev pub number_of : StoreState → ℕ → ℤ
number_of store s = slice_index_or store.numbers s (pos 0)

-- who has arrived at a barrier, and whom it has let through
abbrev pub barrier_of : StoreState → ℕ → BarrierState
barrier_of store b = slice_index_or store.barriers b (new_barrier (pos 0))

-- who holds a read-write lock for writing or reading
abbrev pub rwlock_of : StoreState → ℕ → RwLockState
rwlock_of store l = slice_index_or store.rwlocks l (new_rwlock 0)

-- the store with another value of one variable
abbrev pub with_value : StoreState → ℕ → ℤ → StoreState
with_value store x value = record store { values = slice_set store.values x value }

-- the store with another owner of one mutex, or with none
abbrev pub with_owner : StoreState → ℕ → Option ℕ → StoreState
with_owner store m owner = record store { owners = slice_set store.owners m owner }

-- the store with other threads that wait for one condition, or were woken
abbrev pub with_condition : StoreState → ℕ → ConditionState → StoreState
with_condition store c condition =
    record store { conditions = slice_set store.conditions c condition }

-- the store with another value of one semaphore
abbrev pub with_number : StoreState → ℕ → ℤ → StoreState
with_number store s number = record store { numbers = slice_set store.numbers s number }

-- the store with other threads that have arrived at one barrier, or that it has let through
abbrev pub with_barrier : StoreState → ℕ → BarrierState → StoreState
with_barrier store b barrier = record store { barriers = slice_set store.barriers b barrier }

-- the store with other holders of one read-write lock
abbrev pub with_rwlock : StoreState → ℕ → RwLockState → StoreState
with_rwlock store l rwlock = record store { rwlocks = slice_set store.rwlocks l rwlock }

-- whether a thread is on a list of threads
abbrev pub is_on : ℕ → List ℕ → Bool
is_on t threads = is_member nat_eq threads t

-- how many threads and objects of each kind a store has
abbrev pub sizes_of : StoreState → Sizes
sizes_of store = record {
  threads = store.threads;
  vars = length store.values;
  mutexes = length store.owners;
  conds = length store.conditions;
  sems = length store.numbers;
  barriers = length store.barriers;
  rwlocks = length store.rwlocks;
}
