-- Lists of tests that run at once (this project), the caller's shares of them, and each worker's
-- tasks.
use Rattle.std.specs.Prelude.{◌≡◌, ℕ, true, List, [], map, Some, slice_get, Vec, vec_capacity}
use Rattle.policy_pick.specs.declared.policy.Policy.{Ghosts}
use Rattle.turn_lock.specs.Rule.{Serves}
use Rattle.turn_lock.specs.Views.{view}
use Rattle.pct_ask.specs.Bodies.{Pending}
use Rattle.worker_run.specs.Batch.{Each, IsSeatOf, IsShareOf, IsTask, IsServedTask, IsThreadTold}
use Rattle.worker_run.specs.Batch.{IsTaskBack, bodies_on, is_there}
use Rattle.worker_run.specs.declared.batch.RunningTest.{RunningTest}
use Rattle.worker_run.specs.declared.batch.Share.{Share}
use Rattle.worker_run.specs.declared.batch.Task.{Task}

module _ {P : Type 0} {policy : Ghosts P} {B : Type 0} where
  -- the seats of the shares are their locks'
  abbrev pub AreSeats : List (RunningTest P B) → List (Share P B policy) → Type 0
  AreSeats tests shares = Each (λ test share. IsSeatOf test.lock.now share.seat) tests shares

  -- each share is one of its test's
  abbrev pub AreShares : (B → Pending) → List (RunningTest P B) → List (Share P B policy) → Type 0
  AreShares pending tests shares = Each (IsShareOf pending) tests shares

  -- a thread's tasks of all tests
  abbrev pub AreTasks : (B → Pending) → List (RunningTest P B) → ℕ → List (Task P B policy) → Type 0
  AreTasks pending tests t tasks = Each (λ test task. IsTask pending test t task) tests tasks

  -- all of which were served
  abbrev pub AreServedTasks : (B → Pending) → List (RunningTest P B) → ℕ → List (Task P B policy)
      → Type 0
  AreServedTasks pending tests t tasks =
      Each (λ test task. IsServedTask pending test t task) tests tasks

  -- the tasks of a thread, and what came back of them
  abbrev pub AreBack : (B → Pending) → ℕ → List (Task P B policy) → List (Task P B policy) → Type 0
  AreBack pending t before after = Each (λ one other. IsTaskBack pending t one other) before after

  -- the thread's task of test i is there
  abbrev pub IsThere : List (Task P B policy) → ℕ → Type 0
  IsThere tasks i = slice_get (map is_there tasks) i ≡ Some true

  -- the share of test i serves thread t
  pub record Holds (shares : List (Share P B policy)) (i t : ℕ) : Type 0 where
    pub share : Share P B policy
    pub at : slice_get shares i ≡ Some share
    pub serves : Serves (view share.seat) t

  -- the tasks of the first threads, one list for each thread
  abbrev pub AreTaskLists : {A : Type 0} → (B → Pending) → List (RunningTest P B)
      → List (Vec (Task P B policy) A) → Type 0
  AreTaskLists {A} pending tests lists = (t : ℕ) (tasks : Vec (Task P B policy) A) →
      slice_get lists t ≡ Some tasks → AreTasks pending tests t tasks.items

  -- an empty list, with memory for so many tasks
  pub record IsEmptyList {A : Type 0} (count : ℕ) (list : Vec (Task P B policy) A) : Type 0 where
    pub empty : list.items ≡ []
    pub capacity : vec_capacity list ≡ count

  -- lists that each are so
  abbrev pub AreEmptyLists : {A : Type 0} → ℕ → List (Vec (Task P B policy) A) → Type 0
  AreEmptyLists {A} count lists = (t : ℕ) (list : Vec (Task P B policy) A) →
      slice_get lists t ≡ Some list → IsEmptyList count list

  -- thread t of test i has its task there
  pub record IsListed {A : Type 0} (lists : List (Vec (Task P B policy) A))
      (i t : ℕ) : Type 0 where
    pub tasks : Vec (Task P B policy) A
    pub at : slice_get lists t ≡ Some tasks
    pub there : IsThere tasks.items i

  -- the share of test i has seen that its thread t was served
  abbrev pub ToldAt : (B → Pending) → List (RunningTest P B) → List (Share P B policy) → ℕ → ℕ
      → Type 0
  ToldAt pending tests shares i t = (test : RunningTest P B) (share : Share P B policy)
      → slice_get tests i ≡ Some test → slice_get shares i ≡ Some share
      → IsThreadTold (bodies_on pending test) t (view share.seat)

  -- The threads that shares held and those that had tasks were served, as the shares have seen
  -- afterwards.
  pub record AreTold {A : Type 0} (pending : B → Pending) (tests : List (RunningTest P B))
      (shares : List (Share P B policy)) (lists : List (Vec (Task P B policy) A))
      (after : List (Share P B policy)) : Type 0 where
    pub seats : AreSeats tests after
    pub held : (i t : ℕ) → Holds shares i t → ToldAt pending tests after i t
    pub listed : (i t : ℕ) → IsListed lists i t → ToldAt pending tests after i t

  -- and so was the one thread of which these are the tasks
  pub record AreToldBeside {A : Type 0} (pending : B → Pending) (tests : List (RunningTest P B))
      (shares : List (Share P B policy)) (lists : List (Vec (Task P B policy) A)) (t : ℕ)
      (tasks : List (Task P B policy)) (after : List (Share P B policy)) : Type 0 where
    pub told : AreTold pending tests shares lists after
    pub beside : (i : ℕ) → IsThere tasks i → ToldAt pending tests after i t
