-- Small theorems that read the definitions on known steps.
use Rattle.std.specs.Prelude.{◌≡◌, pos, true, false, [], ◌∷◌, Some, None, refl}
use Rattle.pct_ask.specs.declared.Ask.TheVariants.{Add, Cas, Lock, TryLock, Unlock, Release, Regain}
use Rattle.pct_ask.specs.declared.Ask.TheVariants.{Signal, TryDown, Up, Arrive, Leave, RdLock}
use Rattle.pct_ask.specs.declared.Ask.TheVariants.{WrLock}
use Rattle.pct_ask.specs.declared.MisuseKind.TheVariants.{NotOwner}
use Rattle.pct_ask.specs.declared.Verdict.TheVariants.{Misuse}
use Rattle.sync_store.specs.Store.{StoreState, new_condition, new_barrier}
use Rattle.sync_store.specs.Enabled.{enabled, others_ended}
use Rattle.sync_store.specs.Effect.{Goes, Stops, effect}

-- a store of two threads without objects
abbrev bare : StoreState
bare = record {
  threads = 2;
  values = [];
  owners = [];
  conditions = [];
  numbers = [];
  barriers = [];
  started = [];
  rwlocks = [];
}

-- a mutex that nobody owns and a condition that nobody waits for
abbrev at_rest : StoreState
at_rest = record bare { owners = None ∷ []; conditions = new_condition ∷ [] }

abbrev store_with_owner : StoreState
store_with_owner = record bare { owners = Some 0 ∷ []; conditions = new_condition ∷ [] }

abbrev store_with_waiter : StoreState
store_with_waiter =
    record bare { owners = None ∷ []; conditions = record { waiting = 0 ∷ []; woken = [] } ∷ [] }

abbrev woken : StoreState
woken =
    record bare { owners = None ∷ []; conditions = record { waiting = []; woken = 0 ∷ [] } ∷ [] }

-- a signal that nobody waits for is lost
pub signal_lost : effect at_rest 1 10 (Signal 0) ≡ Goes at_rest (pos 0)
signal_lost = refl

pub lock : effect at_rest 0 5 (Lock 0) ≡ Goes store_with_owner (pos 0)
lock = refl

pub wait : effect store_with_owner 0 6 (Release 0 0) ≡ Goes store_with_waiter (pos 0)
wait = refl

pub waits : enabled store_with_waiter (others_ended 0) 0 (Regain 0 0) ≡ false
waits = refl

-- a signal that comes after the wait wakes the waiter
pub signal_wakes : effect store_with_waiter 1 10 (Signal 0) ≡ Goes woken (pos 1)
signal_wakes = refl

pub is_woken : enabled woken (others_ended 0) 0 (Regain 0 0) ≡ true
is_woken = refl

pub takes_again : effect woken 0 6 (Regain 0 0) ≡ Goes store_with_owner (pos 0)
takes_again = refl

pub unlock : effect store_with_owner 0 7 (Unlock 0) ≡ Goes at_rest (pos 0)
unlock = refl

-- a mutex is not free for its owner either, and one that nobody owns can't be let go
pub relock : enabled store_with_owner (others_ended 0) 0 (Lock 0) ≡ false
relock = refl

pub unlock_of_nobody : effect at_rest 0 4 (Unlock 0) ≡ Stops (Misuse 0 4 NotOwner)
unlock_of_nobody = refl

-- two threads meet twice at a barrier for two, and the last to arrive is the serial one
abbrev one_arrived : StoreState
one_arrived =
    record bare { barriers = record { count = pos 2; arrived = 0 ∷ []; released = [] } ∷ [] }

abbrev both_released : StoreState
both_released = record bare {
  barriers = record {
    count = pos 2;
    arrived = [];
    released = record { thread = 0; serial = false } ∷ record { thread = 1; serial = true } ∷ [];
  } ∷ [];
}

abbrev one_left : StoreState
one_left = record bare {
  barriers = record {
    count = pos 2;
    arrived = [];
    released = record { thread = 1; serial = true } ∷ [];
  } ∷ [];
}

abbrev arrived_again : StoreState
arrived_again = record bare {
  barriers = record {
    count = pos 2;
    arrived = 0 ∷ [];
    released = record { thread = 1; serial = true } ∷ [];
  } ∷ [];
}

pub first_arrives : effect (record bare { barriers = new_barrier (pos 2) ∷ [] }) 0 4 (Arrive 0)
    ≡ Goes one_arrived (pos 0)
first_arrives = refl

pub first_stays : enabled one_arrived (others_ended 0) 0 (Leave 0) ≡ false
first_stays = refl

pub last_arrives : effect one_arrived 1 8 (Arrive 0) ≡ Goes both_released (pos 0)
last_arrives = refl

pub first_leaves : effect both_released 0 4 (Leave 0) ≡ Goes one_left (pos 0)
first_leaves = refl

pub first_again : effect one_left 0 5 (Arrive 0) ≡ Goes arrived_again (pos 0)
first_again = refl

pub serial_leaves : effect arrived_again 1 8 (Leave 0) ≡ Goes one_arrived (pos 1)
serial_leaves = refl

-- the steps that never wait
abbrev atomics : StoreState
atomics = record bare { values = pos 5 ∷ []; owners = None ∷ []; numbers = pos 1 ∷ [] }

pub add : effect atomics 0 6 (Add 0 (pos 3)) ≡ Goes (record atomics { values = pos 8 ∷ [] }) (pos 5)
add = refl

pub exchange : effect (record atomics { values = pos 8 ∷ [] }) 0 7 (Cas 0 (pos 8) (pos 9))
    ≡ Goes (record atomics { values = pos 9 ∷ [] }) (pos 1)
exchange = refl

pub no_exchange : effect (record atomics { values = pos 9 ∷ [] }) 0 8 (Cas 0 (pos 8) (pos 1))
    ≡ Goes (record atomics { values = pos 9 ∷ [] }) (pos 0)
no_exchange = refl

pub try_lock : effect atomics 0 9 (TryLock 0)
    ≡ Goes (record atomics { owners = Some 0 ∷ [] }) (pos 1)
try_lock = refl

pub try_lock_again : effect (record atomics { owners = Some 0 ∷ [] }) 0 10 (TryLock 0)
    ≡ Goes (record atomics { owners = Some 0 ∷ [] }) (pos 0)
try_lock_again = refl

pub try_down : effect atomics 0 11 (TryDown 0)
    ≡ Goes (record atomics { numbers = pos 0 ∷ [] }) (pos 1)
try_down = refl

pub try_down_again : effect (record atomics { numbers = pos 0 ∷ [] }) 0 12 (TryDown 0)
    ≡ Goes (record atomics { numbers = pos 0 ∷ [] }) (pos 0)
try_down_again = refl

pub up : effect (record atomics { numbers = pos 0 ∷ [] }) 0 13 (Up 0) ≡ Goes atomics (pos 0)
up = refl

-- a read-write lock that two readers hold has room for a third and none for a writer
abbrev read_by_two : StoreState
read_by_two =
    record bare { threads = 3; rwlocks = record { writer = None; reads = 1 ∷ 1 ∷ 0 ∷ [] } ∷ [] }

pub no_writer_beside_readers : enabled read_by_two (others_ended 2) 2 (WrLock 0) ≡ false
no_writer_beside_readers = refl

pub third_reader : enabled read_by_two (others_ended 2) 2 (RdLock 0) ≡ true
third_reader = refl
