-- The tests of a batch, one after another: what a change at one index leaves.
use Rattle.std.proofs.Common.{◌≡◌, ◌≢◌, ℕ, ◌+◌, ◌<◌, ◌≤◌, true, Some, List, [], ◌∷◌, ◌++◌, length}
use Rattle.std.proofs.Common.{set, sym, ap, subst, ◌∙◌, arith, ◌⊎◌, inl, inr}
use Rattle.std.specs.Prelude.{slice_get, Vec}
use Rattle.std.proofs.lemmas.Bool.{cases_eq}
use Rattle.std.proofs.lemmas.Option.{slice_get_within}
use Rattle.policy_pick.specs.declared.policy.Policy.{Ghosts}
use Rattle.turn_lock.specs.Rule.{Serves}
use Rattle.turn_lock.specs.Views.{view}
use Rattle.pct_ask.specs.Bodies.{Pending}
use Rattle.worker_run.specs.Batch.{Each, IsTask, IsServedTask, IsThreadTold, bodies_on, is_there}
use Rattle.worker_run.specs.Batches.{IsThere, IsEmptyList, AreEmptyLists, Holds, IsListed, ToldAt}
use Rattle.worker_run.specs.Batches.{AreTasks}
use Rattle.worker_run.specs.Batches.{AreTaskLists}
use Rattle.worker_run.specs.declared.batch.RunningTest.{RunningTest}
use Rattle.worker_run.specs.declared.batch.Share.{Share}
use Rattle.worker_run.specs.declared.batch.Task.{Task}
use Rattle.worker_run.specs.declared.batch.Task.TheVariants.{Absent, Waiting, Served}
use Rattle.worker_run.proofs.Eachs.{get-set-same, get-set-other, get-more-old, get-more-new}
use Rattle.worker_run.proofs.Eachs.{get-more, one-item, get-map, map-get}

-- items at the same index are related, below an index
abbrev pub Below : {X Y : Type 0} → ℕ → (X → Y → Type 0) → List X → List Y → Type 0
Below {X} {Y} k R xs ys = (i : ℕ) (x : X) (y : Y) → i < k → slice_get xs i ≡ Some x
    → slice_get ys i ≡ Some y → R x y

-- or wherever there are two
abbrev pub Along : {X Y : Type 0} → (X → Y → Type 0) → List X → List Y → Type 0
Along {X} {Y} R xs ys = (i : ℕ) (x : X) (y : Y) → slice_get xs i ≡ Some x → slice_get ys i ≡ Some y
    → R x y

module _ {X Y : Type 0} (R : X → Y → Type 0) (xs : List X) (ys : List Y) where
  pub below-set : (k : ℕ) (x : X) (y : Y) → k < length ys → slice_get xs k ≡ Some x → R x y
      → Below k R xs ys → Below (k + 1) R xs (set ys k y)
  below-set k x y within at is below i u v under here there = elim (cases_eq i k) [
    | inl same ↦
        let first : x ≡ u = one-item xs k x u at (ap (slice_get xs) (sym same) ∙ here) in
        let second : y ≡ v = one-item (set ys k y) k y v (get-set-same ys k y within)
        (ap (slice_get (set ys k y)) (sym same) ∙ there) in
        subst (λ (p : X × Y). R p.0 p.1) (λ j. (first j, second j)) is
    | inr apart ↦ below i u v (omega (arith, apart)) here
        (sym (get-set-other ys k i y apart) ∙ there)
  ]

  pub below-all : (k : ℕ) → length xs ≤ k → Below k R xs ys → length ys ≡ length xs → Each R xs ys
  below-all k all below long = record {
    long = long;
    each = λ i x y here there.
        below i x y (let under = slice_get_within xs i x here in omega arith) here there;
  }

  pub along-more : (x : X) (y : Y) → slice_get xs (length ys) ≡ Some x → R x y → Along R xs ys
      → Along R xs (ys ++ y ∷ [])
  along-more x y at is along i u v here there = elim (get-more ys y i v there) [
    | inl w ↦ along i u v here w
    | inr w ↦
        let first : x ≡ u = one-item xs (length ys) x u at (ap (slice_get xs) (sym w.0) ∙ here) in
        subst (λ (p : X × Y). R p.0 p.1) (λ j. (first j, w.1 j)) is
  ]

pub along-none : {X Y : Type 0} (R : X → Y → Type 0) (xs : List X) (ys : List Y) → ys ≡ []
    → Along R xs ys
along-none R xs ys none i x y here there =
    absurd (let under = slice_get_within ys i y there in omega (arith, under, ap length none))

-- the items after a change stay as they were
pub rest-set : {X : Type 0} (first xs : List X) (k : ℕ) (x : X)
    → ((i : ℕ) → k ≤ i → slice_get xs i ≡ slice_get first i) → (i : ℕ) → k + 1 ≤ i
    → slice_get (set xs k x) i ≡ slice_get first i
rest-set first xs k x rest i above =
    get-set-other xs k i x (λ e. omega (arith, e)) ∙ rest i (omega arith)

module _ {P : Type 0} {policy : Ghosts P} {B : Type 0} where
  -- ---- one share is changed
  module _ (shares : List (Share P B policy)) (k : ℕ) (share new : Share P B policy)
      (at : slice_get shares k ≡ Some share) where
    within : k < length shares
    within = slice_get_within shares k share at

    pub holds-step : (Q : ℕ → Type 0)
        → ((t : ℕ) → Serves (view share.seat) t → Serves (view new.seat) t ⊎ Q t) → (i t : ℕ)
        → Holds shares i t → Holds (set shares k new) i t ⊎ ((i ≡ k) × Q t)
    holds-step Q step i t h = elim (cases_eq i k) [
      | inl same ↦
          let mine : h.share ≡ share = one-item shares k h.share share
          (ap (slice_get shares) (sym same) ∙ h.at) at in
          let S : Share P B policy → Type 0 = λ c. Serves (view c.seat) t in
          elim (step t (subst S mine h.serves)) [
            | inl s ↦ inl (record {
              share = new;
              at = ap (slice_get (set shares k new)) same
                  ∙ get-set-same shares k new within;
              serves = s;
            })
            | inr q ↦ inr (same, q)
          ]
      | inr apart ↦ inl (record {
        share = h.share;
        at = get-set-other shares k i new apart ∙ h.at;
        serves = h.serves;
      })
    ]

    pub holds-kept : ((t : ℕ) → Serves (view share.seat) t → Serves (view new.seat) t) → (i t : ℕ)
        → Holds shares i t → Holds (set shares k new) i t
    holds-kept step i t h = elim (holds-step (λ u. ⊥) (λ u here. inl (step u here)) i t h) [
      | inl w ↦ w
      | inr w ↦ absurd w.1
    ]

    pub holds-new : (t : ℕ) → Serves (view new.seat) t → Holds (set shares k new) k t
    holds-new t here = record { share = new; at = get-set-same shares k new within; serves = here }

    module _ (pending : B → Pending) (tests : List (RunningTest P B)) (test : RunningTest P B)
        (here : slice_get tests k ≡ Some test) where
      pub told-new : (t : ℕ) → IsThreadTold (bodies_on pending test) t (view new.seat)
          → ToldAt pending tests (set shares k new) k t
      told-new t told s c first second =
          let one : test ≡ s = one-item tests k test s here first in
          let other : new ≡ c = one-item (set shares k new) k new c
          (get-set-same shares k new within)
          second in
          let T : RunningTest P B × Share P B policy → Type 0 =
          λ p. IsThreadTold (bodies_on pending p.0) t (view p.1.seat) in
          subst T (λ j. (one j, other j)) told

      pub told-other : (i t : ℕ) → i ≢ k → ToldAt pending tests shares i t
          → ToldAt pending tests (set shares k new) i t
      told-other i t apart was s c first second =
          was s c first (sym (get-set-other shares k i new apart) ∙ second)

      pub told-kept : ((t : ℕ) → IsThreadTold (bodies_on pending test) t (view share.seat)
          → IsThreadTold (bodies_on pending test) t (view new.seat)) → (i t : ℕ)
          → ToldAt pending tests shares i t → ToldAt pending tests (set shares k new) i t
      told-kept step i t was = elim (cases_eq i k) [
        | inl same ↦
            let T : ℕ → Type 0 = λ n. ToldAt pending tests (set shares k new) n t in
            subst T (sym same) (told-new t
            (step t (was test share (ap (slice_get tests) same ∙ here)
            (ap (slice_get shares) same ∙ at))))
        | inr apart ↦ told-other i t apart was
      ]

  -- ---- a task that was served is one
  pub served-is : (pending : B → Pending) (test : RunningTest P B) (t : ℕ) (task : Task P B policy)
      → IsServedTask pending test t task → IsTask pending test t task
  served-is pending test t Absent is = is
  served-is pending test t (Waiting seat runner) is = absurd is
  served-is pending test t (Served seat) is = is

  -- ---- tasks that are there
  pub there-old : (tasks : List (Task P B policy)) (task : Task P B policy) (i : ℕ)
      → IsThere tasks i → IsThere (tasks ++ task ∷ []) i
  there-old tasks task i there =
      let w = map-get is_there tasks i true there in
      get-map is_there (tasks ++ task ∷ []) i w.0
      (get-more-old tasks task i (slice_get_within tasks i w.0 w.1) ∙ w.1) ∙ ap Some w.2

  pub there-new : (tasks : List (Task P B policy)) (task : Task P B policy) → is_there task ≡ true
      → IsThere (tasks ++ task ∷ []) (length tasks)
  there-new tasks task is =
      get-map is_there (tasks ++ task ∷ []) (length tasks) task (get-more-new tasks task)
      ∙ ap Some is

  pub there-at : (tasks : List (Task P B policy)) (k : ℕ) (task : Task P B policy)
      → slice_get tasks k ≡ Some task → IsThere tasks k → is_there task ≡ true
  there-at tasks k task at there =
      let both : Some (is_there task) ≡ Some true = sym (get-map is_there tasks k task at)
      ∙ there in cc

  pub there-other : (tasks : List (Task P B policy)) (k i : ℕ) (task : Task P B policy) → i ≢ k
      → IsThere tasks i → IsThere (set tasks k task) i
  there-other tasks k i task apart there =
      let w = map-get is_there tasks i true there in
      get-map is_there (set tasks k task) i w.0 (get-set-other tasks k i task apart ∙ w.1)
      ∙ ap Some w.2

  pub there-set : (tasks : List (Task P B policy)) (k : ℕ) (task : Task P B policy)
      → k < length tasks → is_there task ≡ true → IsThere (set tasks k task) k
  there-set tasks k task within is =
      get-map is_there (set tasks k task) k task (get-set-same tasks k task within) ∙ ap Some is

  -- ---- empty lists
  pub no-lists : {A : Type 0} (count : ℕ) (lists : List (Vec (Task P B policy) A)) → lists ≡ []
      → AreEmptyLists count lists
  no-lists count lists none t list at =
      let under = slice_get_within lists t list at in absurd (omega (arith, under, ap length none))

  pub lists-more : {A : Type 0} (count : ℕ) (lists : List (Vec (Task P B policy) A))
      (list : Vec (Task P B policy) A)
      → AreEmptyLists count lists → IsEmptyList count list
      → AreEmptyLists count (lists ++ list ∷ [])
  lists-more {A = A} count lists list all is t other at = elim (get-more lists list t other at) [
    | inl w ↦ all t other w
    | inr w ↦ let R : Vec (Task P B policy) A → Type 0 = λ x. IsEmptyList count x in subst R w.1 is
  ]

  pub nothing-there : (tasks : List (Task P B policy)) (i : ℕ) → tasks ≡ [] → IsThere tasks i → ⊥
  nothing-there tasks i none there =
      let w = map-get is_there tasks i true there in
      let under = slice_get_within tasks i w.0 w.1 in omega (arith, under, ap length none)

  -- ---- one list gets its tasks
  -- below an index, each has its thread's tasks
  abbrev pub AreListsBelow : {A : Type 0} → (B → Pending) → List (RunningTest P B) → ℕ
      → List (Vec (Task P B policy) A) → Type 0
  AreListsBelow {A} pending tests k lists = (t : ℕ) (tasks : Vec (Task P B policy) A) → t < k →
      slice_get lists t ≡ Some tasks → AreTasks pending tests t tasks.items

  module _ {A : Type 0} (lists : List (Vec (Task P B policy) A)) (k : ℕ) where
    pub lists-below : (pending : B → Pending) (tests : List (RunningTest P B))
        (new : Vec (Task P B policy) A) → k < length lists → AreTasks pending tests k new.items
        → AreListsBelow pending tests k lists
        → AreListsBelow pending tests (k + 1) (set lists k new)
    lists-below pending tests new within are below t tasks under at = elim (cases_eq t k) [
      | inl same ↦
          let one : new ≡ tasks = one-item (set lists k new) k new tasks
          (get-set-same lists k new within) (ap (slice_get (set lists k new)) (sym same)
          ∙ at) in
          let F : ℕ × Vec (Task P B policy) A → Type 0 =
          λ p. AreTasks pending tests p.0 p.1.items in
          subst F (λ j. (sym same j, one j)) are
      | inr apart ↦ below t tasks (omega (arith, apart))
          (sym (get-set-other lists k t new apart) ∙ at)
    ]

    pub listed-here : (new : Vec (Task P B policy) A) → k < length lists → (i t : ℕ) → t ≡ k
        → IsThere new.items i → IsListed (set lists k new) i t
    listed-here new within i t is there = record {
      tasks = new;
      at = ap (slice_get (set lists k new)) is ∙ get-set-same lists k new within;
      there = there;
    }

    -- the list was empty
    pub listed-set : (list new : Vec (Task P B policy) A) → slice_get lists k ≡ Some list
        → list.items ≡ [] → (i t : ℕ) → IsListed lists i t → IsListed (set lists k new) i t
    listed-set list new at empty i t p = elim (cases_eq t k) [
      | inl same ↦
          let one : p.tasks ≡ list = one-item lists k p.tasks list
          (ap (slice_get lists) (sym same) ∙ p.at) at in
          absurd (nothing-there p.tasks.items i
          (ap (λ (v : Vec (Task P B policy) A). v.items) one ∙ empty) p.there)
      | inr apart ↦
          record {
            tasks = p.tasks;
            at = get-set-other lists k t new apart ∙ p.at;
            there = p.there;
          }
    ]

  -- ---- the last list goes
  module _ {A : Type 0} (lists : List (Vec (Task P B policy) A))
      (tasks : Vec (Task P B policy) A) where
    pub lists-less : (pending : B → Pending) (tests : List (RunningTest P B))
        → AreTaskLists pending tests (lists ++ tasks ∷ []) → AreTaskLists pending tests lists
    lists-less pending tests all t other at =
        all t other (get-more-old lists tasks t (slice_get_within lists t other at) ∙ at)

    pub listed-either : (i t : ℕ) → IsListed (lists ++ tasks ∷ []) i t
        → IsListed lists i t ⊎ ((t ≡ length lists) × IsThere tasks.items i)
    listed-either i t p = elim (get-more lists tasks t p.tasks p.at) [
      | inl w ↦ inl (record { tasks = p.tasks; at = w; there = p.there })
      | inr w ↦
          let I : Vec (Task P B policy) A → Type 0 = λ x. IsThere x.items i in
          inr (w.0, subst I (sym w.1) p.there)
    ]
