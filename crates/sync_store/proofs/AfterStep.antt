-- What a step leaves as it was: how many objects there are, and what concerns other objects than
-- the touched one.
use Rattle.std.proofs.Common.{◌≡◌, ℕ, ℤ, Bool, cond, Option, Some, None, refl}
use Rattle.std.proofs.lemmas.Bool.{cond_both}
use Rattle.pct_ask.specs.declared.Verdict.{Verdict}
use Rattle.pct_ask.specs.declared.Ask.{Ask}
use Rattle.pct_ask.specs.declared.Ask.TheVariants.{Read, Write, Add, Cas, Lock, TryLock, Unlock}
use Rattle.pct_ask.specs.declared.Ask.TheVariants.{Release, Regain, Signal, Broadcast, Down}
use Rattle.pct_ask.specs.declared.Ask.TheVariants.{TryDown, Up, Arrive, Leave, Join, Yield, Check}
use Rattle.pct_ask.specs.declared.Ask.TheVariants.{Fault, Start, Begin, RdLock, WrLock, TryRdLock}
use Rattle.pct_ask.specs.declared.Ask.TheVariants.{TryWrLock, RwUnlock}
use Rattle.sync_store.specs.declared.touched.Touched.{Touched}
use Rattle.sync_store.specs.declared.touched.Touched.TheVariants.{RwLock}
use Rattle.sync_store.specs.declared.applied.Applied.TheVariants.{Ends}
use Rattle.sync_store.specs.Store.{StoreState, RwLockState, sizes_of, condition_of}
use Rattle.sync_store.specs.Effect.{Effect, Goes, Stops, effect, store_after, applied_of, goes_or}
use Rattle.sync_store.specs.Touched.{KeepsOthers, touched_of}
use Rattle.sync_store.proofs.Agreement.{Agrees, same_store, other_value, other_owner}
use Rattle.sync_store.proofs.Agreement.{other_condition, other_number, other_barrier, other_rwlock}
use Rattle.sync_store.proofs.Agreement.{other_wait, without_other, other_started, keeps_others}

-- the stores before and after a step agree
record Keeps (t : ℕ) (object : Touched) (store : StoreState) (step : Effect) : Type 0 where
  agrees : Agrees t object store (store_after store step)

goes : {t : ℕ} {object : Touched} {store after : StoreState} {answer : ℤ}
    → Agrees t object store after → Keeps t object store (Goes after answer)
goes h = record { agrees = h }

stays : {t : ℕ} {object : Touched} {store : StoreState} {answer : ℤ}
    → Keeps t object store (Goes store answer)
stays {t} {object} {store} = record { agrees = same_store t object store }

stops : {t : ℕ} {object : Touched} {store : StoreState} {verdict : Verdict}
    → Keeps t object store (Stops verdict)
stops {t} {object} {store} = record { agrees = same_store t object store }

either : {t : ℕ} {object : Touched} {store : StoreState} (b : Bool) (x y : Effect)
    → Keeps t object store x → Keeps t object store y → Keeps t object store (cond b x y)
either {t} {object} {store} b x y h k = cond_both b x y (Keeps t object store) (λ _. h) (λ _. k)

goes_by : {t : ℕ} {store : StoreState} (l : ℕ) (state : Option RwLockState) (verdict : Verdict)
    → Keeps t (RwLock l) store (goes_or store l state verdict)
goes_by l None verdict = stops
goes_by {t} {store} l (Some rwlock) verdict = goes (other_rwlock t store l rwlock)

keeps : (t line : ℕ) (store : StoreState) (ask : Ask)
    → Keeps t (touched_of ask) store (effect store t line ask)
keeps t line store (Read x) = stays
keeps t line store (Write x value) = goes (other_value t _ store x value)
keeps t line store (Add x value) = either _ _ _ (goes (other_value t _ store x _)) stops
keeps t line store (Cas x old new) = either _ _ _ (goes (other_value t _ store x new)) stays
keeps t line store (Lock m) = goes (other_owner t store m (Some t))
keeps t line store (TryLock m) = either _ _ _ (goes (other_owner t store m (Some t))) stays
keeps t line store (Unlock m) = either _ _ _ (goes (other_owner t store m None)) stops
keeps t line store (Release c m) =
    either _ _ _ (goes (other_wait t store m None c _ (λ u apart. refl))) stops
keeps t line store (Regain c m) =
    goes (other_wait t store m (Some t) c _
    (λ u apart. without_other u t (condition_of store c).woken apart))
keeps t line store (Signal c) = goes (other_condition t store c _)
keeps t line store (Broadcast c) = goes (other_condition t store c _)
keeps t line store (Down s) = goes (other_number t store s _)
keeps t line store (TryDown s) = either _ _ _ (goes (other_number t store s _)) stays
keeps t line store (Up s) = either _ _ _ (goes (other_number t store s _)) stops
keeps t line store (Arrive b) = goes (other_barrier t store b _)
keeps t line store (Leave b) = goes (other_barrier t store b _)
keeps t line store (Join u) = stays
keeps t line store Yield = stays
keeps t line store (Check holds) = either _ _ _ stays stops
keeps t line store (Fault kind) = stops
keeps t line store (Start u) = either _ _ _ stops (goes (other_started t store u))
keeps t line store Begin = stays
keeps t line store (RdLock l) = either _ _ _ (goes (other_rwlock t store l _)) stops
keeps t line store (WrLock l) = goes (other_rwlock t store l _)
keeps t line store (TryRdLock l) = either _ _ _ (goes (other_rwlock t store l _)) stays
keeps t line store (TryWrLock l) = either _ _ _ (goes (other_rwlock t store l _)) stays
keeps t line store (RwUnlock l) = goes_by l _ _

-- a step of the thread t changes, for the other threads, only what concerns the touched object
pub others_after : (t line : ℕ) (store : StoreState) (ask : Ask)
    → KeepsOthers t (touched_of ask) store (store_after store (effect store t line ask))
others_after t line store ask =
    keeps_others t (touched_of ask) store (store_after store (effect store t line ask))
    (keeps t line store ask).agrees

-- a step adds no thread and no object
pub sizes_after : (t line : ℕ) (store : StoreState) (ask : Ask)
    → sizes_of (store_after store (effect store t line ask)) ≡ sizes_of store
sizes_after t line store ask = ((keeps t line store ask).agrees).sizes

-- a step that ends the run leaves the store as it was
pub unchanged_after : (store : StoreState) (step : Effect) (verdict : Verdict)
    → applied_of step ≡ Ends verdict → store_after store step ≡ store
unchanged_after store (Goes after answer) verdict e = cc
unchanged_after store (Stops other) verdict e = refl
