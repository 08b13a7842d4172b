-- What an enabled step does (POSIX threads; where POSIX leaves a case open, this project).
use Rattle.std.specs.Prelude.{ℕ, ◌+◌, ◌-◌, min, ◌==◌, ◌&&◌, nat_lt, ℤ, pos, negsuc, ◌+ℤ◌, ◌-ℤ◌}
use Rattle.std.specs.Prelude.{int_lt, int_le, Bool, false, not, if◌then◌else◌, List, [], ◌∷◌, ◌++◌}
use Rattle.std.specs.Prelude.{length, filter, Option, is_none, Some, None, slice_index, slice_set}
use Rattle.std.specs.Ordering.{int_eq}
use Rattle.std.specs.List.{list_any}
use Rattle.pct_ask.specs.declared.Ask.{Ask}
use Rattle.pct_ask.specs.declared.Ask.TheVariants.{Read, Write, Add, Cas, Lock, TryLock, Unlock}
use Rattle.pct_ask.specs.declared.Ask.TheVariants.{Release, Regain, Signal, Broadcast, Down}
use Rattle.pct_ask.specs.declared.Ask.TheVariants.{TryDown, Up, Arrive, Leave, Join, Yield, Check}
use Rattle.pct_ask.specs.declared.Ask.TheVariants.{Fault, Start, Begin, RdLock, WrLock, TryRdLock}
use Rattle.pct_ask.specs.declared.Ask.TheVariants.{TryWrLock, RwUnlock}
use Rattle.pct_ask.specs.declared.FaultKind.TheVariants.{Overflow}
use Rattle.pct_ask.specs.declared.MisuseKind.TheVariants.{NotOwner, SemFull, AlreadyStarted}
use Rattle.pct_ask.specs.declared.MisuseKind.TheVariants.{TooManyReads}
use Rattle.pct_ask.specs.declared.Verdict.{Verdict}
use Rattle.pct_ask.specs.declared.Verdict.TheVariants.{Failed, Misuse, Fault as Faulted}
use Rattle.sync_store.specs.declared.applied.Applied.{Applied}
use Rattle.sync_store.specs.declared.applied.Applied.TheVariants.{Answer, Ends}
use Rattle.sync_store.specs.Store.{Release as Released, ConditionState, BarrierState, RwLockState}
use Rattle.sync_store.specs.Store.{StoreState, is_on, variable_value, owner_of, condition_of}
use Rattle.sync_store.specs.Store.{number_of}
use Rattle.sync_store.specs.Store.{barrier_of, rwlock_of, with_value, with_owner, with_condition}
use Rattle.sync_store.specs.Store.{with_number, with_barrier, with_rwlock}
use Rattle.sync_store.specs.Enabled.{is_released, is_unread}

-- what comes of a step: the store after it and the thread's answer, or the verdict that ends the
-- run, and the store stays as it was
pub data Effect : Type 0 where
  Goes : (after : StoreState) → (answer : ℤ) → Effect
  Stops : (verdict : Verdict) → Effect

-- a thread goes last on a list; a list that has it stays as it is, with the old entry (this
-- project)
abbrev pub put_last : ℕ → List ℕ → List ℕ
put_last t threads = if is_on t threads then threads else threads ++ t ∷ []

-- threads go last on a list, one after another
abbrev pub put_all_last : List ℕ → List ℕ → List ℕ
put_all_last [] threads = threads
put_all_last (t ∷ ts) threads = put_all_last ts (put_last t threads)

-- a thread leaves a list
abbrev pub list_without : ℕ → List ℕ → List ℕ
list_without t threads = filter (λ u. not (t == u)) threads

-- the numbers that a variable may hold (this project)
abbrev pub is_i64 : ℤ → Bool
is_i64 n = int_le (negsuc 9223372036854775807) n && int_le n (pos 9223372036854775807)

-- whether an owner or a writer is the thread t
abbrev pub is_held_by : ℕ → Option ℕ → Bool
is_held_by t None = false
is_held_by t (Some u) = u == t

-- the longest waiter of a condition is woken, if there is one; a signal that nobody waits for is
-- lost (POSIX)
abbrev pub after_signal : List ℕ → List ℕ → ConditionState
after_signal [] woken = record { waiting = []; woken = woken }
after_signal (t ∷ waiting) woken = record { waiting = waiting; woken = put_last t woken }

-- the greatest number of a semaphore: POSIX's SEM_VALUE_MAX, whose value is this project's
abbrev pub sem_max : ℤ
sem_max = pos 2147483647

-- the greatest number of read holds of a thread (this project)
abbrev pub max_reads : ℕ
max_reads = 1000

-- a thread goes last on the list of those that are let through; a list that has it stays as it is
-- (this project)
abbrev pub let_through : ℕ → Bool → List Released → List Released
let_through t serial released =
    if is_released t released then released
    else released ++ record { thread = t; serial = serial } ∷ []

-- threads are let through, one after another; the one that arrived last is the serial one (POSIX
-- leaves open which)
abbrev pub all_through : ℕ → List ℕ → List Released → List Released
all_through last [] released = released
all_through last (t ∷ ts) released = all_through last ts (let_through t (t == last) released)

-- once as many threads as the barrier counts have arrived, they are all let through; t arrived last
abbrev pub after_meeting : ℕ → BarrierState → BarrierState
after_meeting t barrier =
    if int_eq (pos (length barrier.arrived)) barrier.count
    then record barrier { arrived = []; released = all_through t barrier.arrived barrier.released }
    else barrier

-- the thread t arrives
abbrev pub after_arrival : ℕ → BarrierState → BarrierState
after_arrival t barrier = after_meeting t (record barrier { arrived = put_last t barrier.arrived })

-- a thread leaves a barrier that has let it through
abbrev pub after_leaving : ℕ → BarrierState → BarrierState
after_leaving t barrier =
    record barrier { released = filter (λ release. not (t == release.thread)) barrier.released }

-- whether a thread is let through as the serial one
abbrev pub is_serial : ℕ → List Released → Bool
is_serial t released = list_any (λ release. t == release.thread && release.serial) released

-- a read-write lock with another writer, or with none
abbrev pub with_writer : RwLockState → Option ℕ → RwLockState
with_writer rwlock writer = record rwlock { writer = writer }

-- a read-write lock with another number of read holds of one thread
abbrev pub with_reads : RwLockState → ℕ → ℕ → RwLockState
with_reads rwlock t holds = record rwlock { reads = slice_set rwlock.reads t holds }

-- a thread lets a read-write lock go: as its writer, else one of its read holds; None where it has
-- neither
abbrev pub after_unlock : RwLockState → ℕ → Option RwLockState
after_unlock rwlock t =
    if is_held_by t rwlock.writer then Some (with_writer rwlock None)
    else (if nat_lt 0 (slice_index rwlock.reads t)
    then Some (with_reads rwlock t (slice_index rwlock.reads t - 1))
    else None)

-- the step to another state of a read-write lock, or the verdict where there is none
abbrev pub goes_or : StoreState → ℕ → Option RwLockState → Verdict → Effect
goes_or store l None verdict = Stops verdict
goes_or store l (Some rwlock) verdict = Goes (with_rwlock store l rwlock) (pos 0)

-- The step of the thread t, whose ask stands on a line of the test: the store after it and the
-- answer, or a verdict. It speaks of steps that are enabled.
abbrev pub effect : StoreState → ℕ → ℕ → Ask → Effect
effect store t line (Read x) = Goes store (variable_value store x)
effect store t line (Write x value) = Goes (with_value store x value) (pos 0)
effect store t line (Add x value) =
    if is_i64 (variable_value store x +ℤ value)
    then Goes (with_value store x (variable_value store x +ℤ value)) (variable_value store x)
    else Stops (Faulted t line Overflow)
effect store t line (Cas x old new) =
    if int_eq (variable_value store x) old then Goes (with_value store x new) (pos 1)
    else Goes store (pos 0)
effect store t line (Lock m) = Goes (with_owner store m (Some t)) (pos 0)
effect store t line (TryLock m) =
    if is_none (owner_of store m) then Goes (with_owner store m (Some t)) (pos 1)
    else Goes store (pos 0)
effect store t line (Unlock m) =
    if is_held_by t (owner_of store m) then Goes (with_owner store m None) (pos 0)
    else Stops (Misuse t line NotOwner)
effect store t line (Release c m) =
    if is_held_by t (owner_of store m)
    then Goes
    (with_condition (with_owner store m None) c
    (record (condition_of store c) { waiting = put_last t (condition_of store c).waiting }))
    (pos 0)
    else Stops (Misuse t line NotOwner)
effect store t line (Regain c m) =
    Goes
    (with_condition (with_owner store m (Some t)) c
    (record (condition_of store c) { woken = list_without t (condition_of store c).woken }))
    (pos 0)
effect store t line (Signal c) =
    Goes
    (with_condition store c
    (after_signal (condition_of store c).waiting (condition_of store c).woken))
    (pos (min 1 (length (condition_of store c).waiting)))
effect store t line (Broadcast c) =
    Goes
    (with_condition store c
    (record {
      waiting = [];
      woken = put_all_last (condition_of store c).waiting (condition_of store c).woken;
    }))
    (pos (length (condition_of store c).waiting))
effect store t line (Down s) = Goes (with_number store s (number_of store s -ℤ pos 1)) (pos 0)
effect store t line (TryDown s) =
    if int_lt (pos 0) (number_of store s)
    then Goes (with_number store s (number_of store s -ℤ pos 1)) (pos 1)
    else Goes store (pos 0)
effect store t line (Up s) =
    if int_lt (number_of store s) sem_max
    then Goes (with_number store s (number_of store s +ℤ pos 1)) (pos 0)
    else Stops (Misuse t line SemFull)
effect store t line (Arrive b) =
    Goes (with_barrier store b (after_arrival t (barrier_of store b))) (pos 0)
effect store t line (Leave b) =
    Goes (with_barrier store b (after_leaving t (barrier_of store b)))
    (if is_serial t (barrier_of store b).released then pos 1 else pos 0)
effect store t line (Join u) = Goes store (pos 0)
effect store t line Yield = Goes store (pos 0)
effect store t line (Check holds) = if holds then Goes store (pos 0) else Stops (Failed t line)
effect store t line (Fault kind) = Stops (Faulted t line kind)
effect store t line (Start u) =
    if is_on u store.started then Stops (Misuse t line AlreadyStarted)
    else Goes (record store { started = store.started ++ u ∷ [] }) (pos 0)
effect store t line Begin = Goes store (pos 0)
effect store t line (RdLock l) =
    if nat_lt (slice_index (rwlock_of store l).reads t) max_reads
    then Goes
    (with_rwlock store l
    (with_reads (rwlock_of store l) t (slice_index (rwlock_of store l).reads t + 1)))
    (pos 0)
    else Stops (Misuse t line TooManyReads)
effect store t line (WrLock l) =
    Goes (with_rwlock store l (with_writer (rwlock_of store l) (Some t))) (pos 0)
effect store t line (TryRdLock l) =
    if is_none (rwlock_of store l).writer
    && nat_lt (slice_index (rwlock_of store l).reads t) max_reads
    then Goes
    (with_rwlock store l
    (with_reads (rwlock_of store l) t (slice_index (rwlock_of store l).reads t + 1)))
    (pos 1)
    else Goes store (pos 0)
effect store t line (TryWrLock l) =
    if is_none (rwlock_of store l).writer && is_unread (rwlock_of store l)
    then Goes (with_rwlock store l (with_writer (rwlock_of store l) (Some t))) (pos 1)
    else Goes store (pos 0)
effect store t line (RwUnlock l) =
    goes_or store l (after_unlock (rwlock_of store l) t) (Misuse t line NotOwner)

-- the store after a step: that of the effect, or the same one where the run ends
abbrev pub store_after : StoreState → Effect → StoreState
store_after store (Goes after answer) = after
store_after store (Stops verdict) = store

-- what comes of a step, without the store
abbrev pub applied_of : Effect → Applied
applied_of (Goes after answer) = Answer answer
applied_of (Stops verdict) = Ends verdict
