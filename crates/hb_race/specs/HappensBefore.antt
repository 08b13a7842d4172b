-- Which steps of a run happen before which: the happens-before of Lamport, with the edges that the
-- operations of POSIX threads make (this project's profile). Steps are named by their places in the
-- list, from 0.
use Rattle.std.specs.Prelude.{◌≡◌, ℕ, ℤ, pos, zero, suc, ◌<◌, int_lt, if◌then◌else◌, List, Option}
use Rattle.std.specs.Prelude.{Some, None, slice_get}
use Rattle.std.specs.Ordering.{int_eq}
use Rattle.pct_ask.specs.declared.ask.Ask.{Ask}
use Rattle.pct_ask.specs.declared.ask.Ask.TheVariants.{Add, Cas, Lock, TryLock, Unlock, Release}
use Rattle.pct_ask.specs.declared.ask.Ask.TheVariants.{Regain, Signal, Broadcast, Down, TryDown, Up}
use Rattle.pct_ask.specs.declared.ask.Ask.TheVariants.{Arrive, Leave, Join, Start, RdLock, WrLock}
use Rattle.pct_ask.specs.declared.ask.Ask.TheVariants.{TryRdLock, TryWrLock, RwUnlock}
use Rattle.pct_ask.specs.declared.event.Event.{Event}

-- where an attempt was answered 1, and so took what it asked for
abbrev pub if_taken : {A : Type 0} → ℤ → A → Option A
if_taken answer x = if int_eq answer (pos 1) then Some x else None

-- where a signal was answered above 0, and so woke somebody
abbrev pub if_woken : {A : Type 0} → ℤ → A → Option A
if_woken answer x = if int_lt (pos 0) answer then Some x else None

-- the mutex that a step lets go: it unlocks it, or begins a wait on a condition
abbrev pub mutex_let_go : Ask → Option ℕ
mutex_let_go (Unlock m) = Some m
mutex_let_go (Release c m) = Some m
mutex_let_go _ = None

-- the mutex that a step takes: it locks it, tries to and is answered 1, or ends a wait
abbrev pub mutex_taken : Ask → ℤ → Option ℕ
mutex_taken (Lock m) answer = Some m
mutex_taken (TryLock m) answer = if_taken answer m
mutex_taken (Regain c m) answer = Some m
mutex_taken _ answer = None

-- the condition of which a step woke threads
abbrev pub condition_signalled : Ask → ℤ → Option ℕ
condition_signalled (Signal c) answer = if_woken answer c
condition_signalled (Broadcast c) answer = if_woken answer c
condition_signalled _ answer = None

-- the condition of which a step's thread was woken: the step ends its wait
abbrev pub condition_left : Ask → Option ℕ
condition_left (Regain c m) = Some c
condition_left _ = None

-- the semaphore that a step raises
abbrev pub semaphore_raised : Ask → Option ℕ
semaphore_raised (Up s) = Some s
semaphore_raised _ = None

-- the semaphore that a step lowers; an attempt lowers it where it was answered 1
abbrev pub semaphore_lowered : Ask → ℤ → Option ℕ
semaphore_lowered (Down s) answer = Some s
semaphore_lowered (TryDown s) answer = if_taken answer s
semaphore_lowered _ answer = None

-- the barrier at which a step arrives
abbrev pub barrier_reached : Ask → Option ℕ
barrier_reached (Arrive b) = Some b
barrier_reached _ = None

-- the barrier that a step leaves, since its thread was let through
abbrev pub barrier_left : Ask → Option ℕ
barrier_left (Leave b) = Some b
barrier_left _ = None

-- the thread that a step starts
abbrev pub thread_started : Ask → Option ℕ
thread_started (Start u) = Some u
thread_started _ = None

-- the thread for whose end a step waited
abbrev pub thread_joined : Ask → Option ℕ
thread_joined (Join u) = Some u
thread_joined _ = None

-- the read-write lock that a step lets go, whether it was held for reading or writing
abbrev pub rwlock_let_go : Ask → Option ℕ
rwlock_let_go (RwUnlock l) = Some l
rwlock_let_go _ = None

-- the read-write lock that a step takes, for reading or writing; an attempt takes it where it was
-- answered 1
abbrev pub rwlock_taken : Ask → ℤ → Option ℕ
rwlock_taken (RdLock l) answer = Some l
rwlock_taken (WrLock l) answer = Some l
rwlock_taken (TryRdLock l) answer = if_taken answer l
rwlock_taken (TryWrLock l) answer = if_taken answer l
rwlock_taken _ answer = None

-- the variable that a step accesses atomically
abbrev pub atomic_variable : Ask → Option ℕ
atomic_variable (Add x value) = Some x
atomic_variable (Cas x old new) = Some x
atomic_variable _ = None

-- why an earlier step is ordered before a later one
pub data Orders (a b : Event) : Type 0 where
  by_thread : a.thread ≡ b.thread → Orders a b
  by_mutex : (m : ℕ)
      → mutex_let_go a.ask ≡ Some m → mutex_taken b.ask b.answer ≡ Some m
      → Orders a b
  by_condition : (c : ℕ)
      → condition_signalled a.ask a.answer ≡ Some c → condition_left b.ask ≡ Some c
      → Orders a b
  by_semaphore : (s : ℕ)
      → semaphore_raised a.ask ≡ Some s → semaphore_lowered b.ask b.answer ≡ Some s
      → Orders a b
  by_barrier : (r : ℕ)
      → barrier_reached a.ask ≡ Some r → barrier_left b.ask ≡ Some r
      → Orders a b
  by_join : thread_joined b.ask ≡ Some a.thread → Orders a b
  by_start : thread_started a.ask ≡ Some b.thread → Orders a b
  by_rwlock : (l : ℕ)
      → rwlock_let_go a.ask ≡ Some l → rwlock_taken b.ask b.answer ≡ Some l
      → Orders a b
  by_atomics : (x : ℕ)
      → atomic_variable a.ask ≡ Some x → atomic_variable b.ask ≡ Some x
      → Orders a b

-- an edge leads from an earlier step to a later one
pub record IsEdge (events : List Event) (i j : ℕ) : Type 0 where
  pub earlier : i < j
  pub a : Event
  pub b : Event
  pub first : slice_get events i ≡ Some a
  pub second : slice_get events j ≡ Some b
  pub orders : Orders a b

-- a chain of one edge and n more
abbrev pub IsChain : List Event → ℕ → ℕ → ℕ → Type 0
IsChain events i j zero = IsEdge events i j
IsChain events i j (suc n) = (k : ℕ) × IsChain events i k n × IsEdge events k j

-- a chain of one or more edges leads from one step to the other: the least transitive relation that
-- has the edges
abbrev pub HappensBefore : List Event → ℕ → ℕ → Type 0
HappensBefore events i j = (n : ℕ) × IsChain events i j n
