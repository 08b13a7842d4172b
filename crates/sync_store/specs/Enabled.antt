-- When a thread's ask may take its step (POSIX threads; this project's own asks never wait).
use Rattle.std.specs.Prelude.{ℕ, ◌==◌, ◌&&◌, pos, int_lt, Bool, true, not, List, is_none}
use Rattle.std.specs.List.{list_any, list_all}
use Rattle.pct_ask.specs.declared.Ask.{Ask}
use Rattle.pct_ask.specs.declared.Ask.TheVariants.{Read, Write, Add, Cas, Lock, TryLock, Unlock}
use Rattle.pct_ask.specs.declared.Ask.TheVariants.{Release, Regain, Signal, Broadcast, Down}
use Rattle.pct_ask.specs.declared.Ask.TheVariants.{TryDown, Up, Arrive, Leave, Join, Yield, Check}
use Rattle.pct_ask.specs.declared.Ask.TheVariants.{Fault, Start, Begin, RdLock, WrLock, TryRdLock}
use Rattle.pct_ask.specs.declared.Ask.TheVariants.{TryWrLock, RwUnlock}
use Rattle.sync_store.specs.Store.{Release as Released, RwLockState, StoreState, is_on}
use Rattle.sync_store.specs.Store.{owner_of, condition_of, number_of, barrier_of, rwlock_of}

-- whether a barrier has let a thread through
abbrev pub is_released : ℕ → List Released → Bool
is_released t released = list_any (λ release. t == release.thread) released

-- nobody has a read hold
abbrev pub is_unread : RwLockState → Bool
is_unread rwlock = list_all (λ holds. holds == 0) rwlock.reads

-- Whether an ask of the thread t may take its step (POSIX: whether the call returns without
-- blocking). `ended` tells which threads have ended.
abbrev pub enabled : StoreState → (ℕ → Bool) → ℕ → Ask → Bool
enabled store ended t (Read x) = true
enabled store ended t (Write x value) = true
enabled store ended t (Add x value) = true
enabled store ended t (Cas x old new) = true
enabled store ended t (Lock m) = is_none (owner_of store m)
enabled store ended t (TryLock m) = true
enabled store ended t (Unlock m) = true
enabled store ended t (Release c m) = true
enabled store ended t (Regain c m) =
    is_on t (condition_of store c).woken && is_none (owner_of store m)
enabled store ended t (Signal c) = true
enabled store ended t (Broadcast c) = true
enabled store ended t (Down s) = int_lt (pos 0) (number_of store s)
enabled store ended t (TryDown s) = true
enabled store ended t (Up s) = true
enabled store ended t (Arrive b) = true
enabled store ended t (Leave b) = is_released t (barrier_of store b).released
enabled store ended t (Join u) = ended u
enabled store ended t Yield = true
enabled store ended t (Check holds) = true
enabled store ended t (Fault kind) = true
enabled store ended t (Start u) = true
enabled store ended t Begin = is_on t store.started
enabled store ended t (RdLock l) = is_none (rwlock_of store l).writer
enabled store ended t (WrLock l) =
    is_none (rwlock_of store l).writer && is_unread (rwlock_of store l)
enabled store ended t (TryRdLock l) = true
enabled store ended t (TryWrLock l) = true
enabled store ended t (RwUnlock l) = true

-- every thread but t has ended
abbrev pub others_ended : ℕ → ℕ → Bool
others_ended t u = not (u == t)
