-- Two stores that agree, but for one object, on all that decides when an ask is enabled.
use Rattle.std.proofs.Common.{◌≡◌, ◌≢◌, ℕ, ℤ, false, ◌&&◌, List, [], ◌∷◌, ◌++◌, Option, None}
use Rattle.std.proofs.Common.{length, inl, inr, is_none, pos, int_lt, slice_index_or, slice_set}
use Rattle.std.proofs.Common.{refl, sym, ap, ◌∙◌, arith}
use Rattle.std.proofs.lemmas.List.{get_or-set_other, get_or-set_same, set_past, length-set}
use Rattle.std.proofs.lemmas.Bool.{eqb-false, ne_eqb, or_parts, cases_eq, cases_lt}
use Rattle.pct_ask.specs.declared.Ask.TheVariants.{Read, Write, Add, Cas, Lock, TryLock, Unlock}
use Rattle.pct_ask.specs.declared.Ask.TheVariants.{Release, Regain, Signal, Broadcast, Down}
use Rattle.pct_ask.specs.declared.Ask.TheVariants.{TryDown, Up, Arrive, Leave, Join, Yield, Check}
use Rattle.pct_ask.specs.declared.Ask.TheVariants.{Fault, Start, Begin, RdLock, WrLock, TryRdLock}
use Rattle.pct_ask.specs.declared.Ask.TheVariants.{TryWrLock, RwUnlock}
use Rattle.sync_store.specs.declared.touched.Touched.{Touched}
use Rattle.sync_store.specs.declared.touched.Touched.TheVariants.{Mutex, Cond, Sem, Barrier, Thread}
use Rattle.sync_store.specs.declared.touched.Touched.TheVariants.{RwLock}
use Rattle.sync_store.specs.Store.{StoreState, sizes_of, ConditionState, BarrierState, RwLockState}
use Rattle.sync_store.specs.Store.{new_condition, is_on, owner_of, condition_of, number_of}
use Rattle.sync_store.specs.Store.{barrier_of, rwlock_of, with_value, with_owner, with_condition}
use Rattle.sync_store.specs.Store.{with_number, with_barrier, with_rwlock}
use Rattle.sync_store.specs.Enabled.{is_released, is_unread}
use Rattle.sync_store.specs.Effect.{list_without}
use Rattle.sync_store.specs.Touched.{KeepsOthers, is_mutex, is_cond, is_sem, is_barrier, is_thread}
use Rattle.sync_store.specs.Touched.{is_rwlock}
use Rattle.sync_store.proofs.ThreadLists.{is_on-push, is_on-without}

-- the stores have as many objects, and agree for a thread other than t on the objects but one
pub record Agrees (t : ℕ) (object : Touched) (before after : StoreState) : Type 0 where
  pub owners : (m : ℕ) → is_mutex m object ≡ false → owner_of after m ≡ owner_of before m
  pub woken : (u c : ℕ) → u ≢ t → is_cond c object ≡ false
      → is_on u (condition_of after c).woken ≡ is_on u (condition_of before c).woken
  pub numbers : (s : ℕ) → is_sem s object ≡ false → number_of after s ≡ number_of before s
  pub barriers : (b : ℕ) → is_barrier b object ≡ false → barrier_of after b ≡ barrier_of before b
  pub started : (u : ℕ) → is_thread u object ≡ false
      → is_on u after.started ≡ is_on u before.started
  pub rwlocks : (l : ℕ) → is_rwlock l object ≡ false → rwlock_of after l ≡ rwlock_of before l
  pub sizes : sizes_of after ≡ sizes_of before

pub keeps_others : (t : ℕ) (object : Touched) (before after : StoreState)
    → Agrees t object before after → KeepsOthers t object before after
keeps_others t object before after same ended u (Read x) apart off = refl
keeps_others t object before after same ended u (Write x value) apart off = refl
keeps_others t object before after same ended u (Add x value) apart off = refl
keeps_others t object before after same ended u (Cas x old new) apart off = refl
keeps_others t object before after same ended u (Lock m) apart off = ap is_none (same.owners m off)
keeps_others t object before after same ended u (TryLock m) apart off = refl
keeps_others t object before after same ended u (Unlock m) apart off = refl
keeps_others t object before after same ended u (Release c m) apart off = refl
keeps_others t object before after same ended u (Regain c m) apart off =
    let parts = or_parts (is_cond c object) (is_mutex m object) off in
    ap (λ woken. woken && is_none (owner_of after m)) (same.woken u c apart parts.0)
    ∙ ap (λ owner. is_on u (condition_of before c).woken && is_none owner) (same.owners m parts.1)
keeps_others t object before after same ended u (Signal c) apart off = refl
keeps_others t object before after same ended u (Broadcast c) apart off = refl
keeps_others t object before after same ended u (Down s) apart off =
    ap (int_lt (pos 0)) (same.numbers s off)
keeps_others t object before after same ended u (TryDown s) apart off = refl
keeps_others t object before after same ended u (Up s) apart off = refl
keeps_others t object before after same ended u (Arrive b) apart off = refl
keeps_others t object before after same ended u (Leave b) apart off =
    ap (λ barrier. is_released u barrier.released) (same.barriers b off)
keeps_others t object before after same ended u (Join v) apart off = refl
keeps_others t object before after same ended u Yield apart off = refl
keeps_others t object before after same ended u (Check holds) apart off = refl
keeps_others t object before after same ended u (Fault kind) apart off = refl
keeps_others t object before after same ended u (Start v) apart off = refl
keeps_others t object before after same ended u Begin apart off = same.started u off
keeps_others t object before after same ended u (RdLock l) apart off =
    ap (λ rwlock. is_none rwlock.writer) (same.rwlocks l off)
keeps_others t object before after same ended u (WrLock l) apart off =
    ap (λ rwlock. is_none rwlock.writer && is_unread rwlock) (same.rwlocks l off)
keeps_others t object before after same ended u (TryRdLock l) apart off = refl
keeps_others t object before after same ended u (TryWrLock l) apart off = refl
keeps_others t object before after same ended u (RwUnlock l) apart off = refl

pub same_store : (t : ℕ) (object : Touched) (store : StoreState) → Agrees t object store store
same_store t object store = record {
  owners = λ m off. refl;
  woken = λ u c apart off. refl;
  numbers = λ s off. refl;
  barriers = λ b off. refl;
  started = λ u off. refl;
  rwlocks = λ l off. refl;
  sizes = refl;
}

pub other_value : (t : ℕ) (object : Touched) (store : StoreState) (x : ℕ) (value : ℤ)
    → Agrees t object store (with_value store x value)
other_value t object store x value = record {
  owners = λ m off. refl;
  woken = λ u c apart off. refl;
  numbers = λ s off. refl;
  barriers = λ b off. refl;
  started = λ u off. refl;
  rwlocks = λ l off. refl;
  sizes = ap (λ n. record (sizes_of store) { vars = n }) (length-set store.values x value);
}

pub other_owner : (t : ℕ) (store : StoreState) (m : ℕ) (owner : Option ℕ)
    → Agrees t (Mutex m) store (with_owner store m owner)
other_owner t store m owner = record {
  owners = λ n off. get_or-set_other store.owners m n owner None (eqb-false n m off);
  woken = λ u c apart off. refl;
  numbers = λ s off. refl;
  barriers = λ b off. refl;
  started = λ u off. refl;
  rwlocks = λ l off. refl;
  sizes = ap (λ n. record (sizes_of store) { mutexes = n }) (length-set store.owners m owner);
}

pub other_condition : (t : ℕ) (store : StoreState) (c : ℕ) (condition : ConditionState)
    → Agrees t (Cond c) store (with_condition store c condition)
other_condition t store c condition = record {
  owners = λ m off. refl;
  woken =
      λ u d apart off. ap (λ state. is_on u state.woken)
      (get_or-set_other store.conditions c d condition new_condition (eqb-false d c off));
  numbers = λ s off. refl;
  barriers = λ b off. refl;
  started = λ u off. refl;
  rwlocks = λ l off. refl;
  sizes = ap (λ n. record (sizes_of store) { conds = n }) (length-set store.conditions c condition);
}

pub other_number : (t : ℕ) (store : StoreState) (s : ℕ) (number : ℤ)
    → Agrees t (Sem s) store (with_number store s number)
other_number t store s number = record {
  owners = λ m off. refl;
  woken = λ u c apart off. refl;
  numbers = λ r off. get_or-set_other store.numbers s r number _ (eqb-false r s off);
  barriers = λ b off. refl;
  started = λ u off. refl;
  rwlocks = λ l off. refl;
  sizes = ap (λ n. record (sizes_of store) { sems = n }) (length-set store.numbers s number);
}

pub other_barrier : (t : ℕ) (store : StoreState) (b : ℕ) (barrier : BarrierState)
    → Agrees t (Barrier b) store (with_barrier store b barrier)
other_barrier t store b barrier = record {
  owners = λ m off. refl;
  woken = λ u c apart off. refl;
  numbers = λ s off. refl;
  barriers = λ d off. get_or-set_other store.barriers b d barrier _ (eqb-false d b off);
  started = λ u off. refl;
  rwlocks = λ l off. refl;
  sizes = ap (λ n. record (sizes_of store) { barriers = n }) (length-set store.barriers b barrier);
}

pub other_rwlock : (t : ℕ) (store : StoreState) (l : ℕ) (rwlock : RwLockState)
    → Agrees t (RwLock l) store (with_rwlock store l rwlock)
other_rwlock t store l rwlock = record {
  owners = λ m off. refl;
  woken = λ u c apart off. refl;
  numbers = λ s off. refl;
  barriers = λ b off. refl;
  started = λ u off. refl;
  rwlocks = λ k off. get_or-set_other store.rwlocks l k rwlock _ (eqb-false k l off);
  sizes = ap (λ n. record (sizes_of store) { rwlocks = n }) (length-set store.rwlocks l rwlock);
}

-- a condition whose woken list is the same for a thread
woken_kept : (conditions : List ConditionState) (c d u : ℕ) (state : ConditionState)
    → is_on u state.woken ≡ is_on u (slice_index_or conditions c new_condition).woken
    → is_on u (slice_index_or (slice_set conditions c state) d new_condition).woken
    ≡ is_on u (slice_index_or conditions d new_condition).woken
woken_kept conditions c d u state e =
    elim (cases_eq d c) [
      | inl same ↦ rw same (elim (cases_lt c (length conditions)) [
        | inl inside ↦ ap (λ (s : ConditionState). is_on u s.woken)
            (get_or-set_same conditions c state new_condition inside) ∙ e
        | inr outside ↦ ap (λ (states : List ConditionState).
            is_on u (slice_index_or states c new_condition).woken)
            (set_past conditions c state outside)
      ])
      | inr other ↦ ap (λ (s : ConditionState). is_on u s.woken)
          (get_or-set_other conditions c d state new_condition other)
    ]

-- a step that changes a mutex, and a condition's woken list for its own thread alone
pub other_wait : (t : ℕ) (store : StoreState) (m : ℕ) (owner : Option ℕ) (c : ℕ)
    (state : ConditionState) → ((u : ℕ) → u ≢ t
    → is_on u state.woken ≡ is_on u (condition_of store c).woken)
    → Agrees t (Mutex m) store (with_condition (with_owner store m owner) c state)
other_wait t store m owner c state kept = record {
  owners = λ n off. get_or-set_other store.owners m n owner None (eqb-false n m off);
  woken = λ u d apart off. woken_kept store.conditions c d u state (kept u apart);
  numbers = λ s off. refl;
  barriers = λ b off. refl;
  started = λ u off. refl;
  rwlocks = λ l off. refl;
  sizes =
      ap (λ n. record (sizes_of store) {
        mutexes = n;
        conds = length (slice_set store.conditions c state);
      }) (length-set store.owners m owner)
      ∙ ap (λ n. record (sizes_of store) { conds = n }) (length-set store.conditions c state);
}

pub without_other : (u t : ℕ) (threads : List ℕ) → u ≢ t
    → is_on u (list_without t threads) ≡ is_on u threads
without_other u t threads apart =
    let other = ne_eqb t u (λ e. apart (sym e)) in
    let whole = is_on-without u t threads in
    grind arith

pub other_started : (t : ℕ) (store : StoreState) (v : ℕ)
    → Agrees t (Thread v) store (record store { started = store.started ++ v ∷ [] })
other_started t store v = record {
  owners = λ m off. refl;
  woken = λ u c apart off. refl;
  numbers = λ s off. refl;
  barriers = λ b off. refl;
  started = λ u off. let whole = is_on-push u v store.started in grind arith;
  rwlocks = λ l off. refl;
  sizes = refl;
}
