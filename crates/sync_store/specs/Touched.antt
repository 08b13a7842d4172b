-- Which object a step may have changed for the other threads, and whose asks it concerns (this
-- project).
use Rattle.std.specs.Prelude.{◌≡◌, ◌≢◌, ℕ, ◌==◌, ◌||◌, Bool, false, List, [], ◌∷◌}
use Rattle.pct_ask.specs.declared.Ask.{Ask}
use Rattle.pct_ask.specs.declared.Ask.TheVariants.{Join, Begin}
use Rattle.pct_ask.specs.declared.names.NameKind.{NameKind}
use Rattle.pct_ask.specs.declared.names.NameKind.TheVariants as kinds
use Rattle.pct_ask.specs.Objects.{TestObject, objects_of}
use Rattle.sync_store.specs.declared.touched.Touched.{Touched}
use Rattle.sync_store.specs.declared.touched.Touched.TheVariants.{Nothing, Mutex, Cond, Sem}
use Rattle.sync_store.specs.declared.touched.Touched.TheVariants.{Barrier, Thread, RwLock}
use Rattle.sync_store.specs.Store.{StoreState}
use Rattle.sync_store.specs.Enabled.{enabled}

-- an object as one that a step may touch: a variable is none, as no thread waits for one
abbrev pub touched_at : NameKind → ℕ → Touched
touched_at kinds.Thread place = Thread place
touched_at kinds.Var place = Nothing
touched_at kinds.Mutex place = Mutex place
touched_at kinds.Cond place = Cond place
touched_at kinds.Sem place = Sem place
touched_at kinds.Barrier place = Barrier place
touched_at kinds.RwLock place = RwLock place

-- the last of some objects, as one that a step may touch; of none, nothing
abbrev pub last_touched : List TestObject → Touched
last_touched [] = Nothing
last_touched (o ∷ []) = touched_at o.kind o.place
last_touched (o ∷ others) = last_touched others

-- What the step of an ask touches (this project): the last object that it names, but nothing of a
-- variable or of a join. So the start and the end of a wait touch the mutex.
abbrev pub touched_of : Ask → Touched
touched_of (Join u) = Nothing
touched_of ask = last_touched (objects_of ask)

-- whether an object is the mutex m
abbrev pub is_mutex : ℕ → Touched → Bool
is_mutex m (Mutex n) = m == n
is_mutex m _ = false

-- whether an object is the condition c
abbrev pub is_cond : ℕ → Touched → Bool
is_cond c (Cond d) = c == d
is_cond c _ = false

-- whether an object is the semaphore s
abbrev pub is_sem : ℕ → Touched → Bool
is_sem s (Sem r) = s == r
is_sem s _ = false

-- whether an object is the barrier b
abbrev pub is_barrier : ℕ → Touched → Bool
is_barrier b (Barrier d) = b == d
is_barrier b _ = false

-- whether an object is the thread t, which a start touches
abbrev pub is_thread : ℕ → Touched → Bool
is_thread t (Thread u) = t == u
is_thread t _ = false

-- whether an object is the read-write lock l
abbrev pub is_rwlock : ℕ → Touched → Bool
is_rwlock l (RwLock k) = l == k
is_rwlock l _ = false

-- whether two are the same object; nothing is no object
abbrev pub is_object : Touched → Touched → Bool
is_object Nothing object = false
is_object (Mutex m) object = is_mutex m object
is_object (Cond c) object = is_cond c object
is_object (Sem s) object = is_sem s object
is_object (Barrier b) object = is_barrier b object
is_object (Thread t) object = is_thread t object
is_object (RwLock l) object = is_rwlock l object

-- whether an object is one of these
abbrev pub is_one_of : List TestObject → Touched → Bool
is_one_of [] object = false
is_one_of (o ∷ []) object = is_object (touched_at o.kind o.place) object
is_one_of (o ∷ others) object =
    is_object (touched_at o.kind o.place) object || is_one_of others object

-- Whether an ask of the thread t is looked at again where an object is touched: where it names the
-- object, but for two asks. A begin depends on its own thread, which a start touches, and a join on
-- no object, since it waits for the end of its thread alone.
abbrev pub depends_on : ℕ → Ask → Touched → Bool
depends_on t (Join u) object = false
depends_on t Begin object = is_thread t object
depends_on t ask object = is_one_of (objects_of ask) object

-- An ask of a thread other than t that doesn't depend on the object is as enabled afterwards as it
-- was before.
abbrev pub KeepsOthers : ℕ → Touched → StoreState → StoreState → Type 0
KeepsOthers t object before after =
    (ended : ℕ → Bool) (u : ℕ) (ask : Ask) → u ≢ t → depends_on u ask object ≡ false
    → enabled after ended u ask ≡ enabled before ended u ask
