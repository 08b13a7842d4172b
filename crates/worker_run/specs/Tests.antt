-- What is asked of a test that is run with others, and what is promised of its run (this project).
use Rattle.std.specs.Prelude.{◌≡◌, ◌<◌, ℕ, List, [], length, map, Option, Some, slice_get}
use Rattle.pct_ask.specs.declared.Deal.{Deal}
use Rattle.pct_ask.specs.Objects.{sizes_of_deal}
use Rattle.pct_ask.specs.Bodies.{Pending, AreInRange}
use Rattle.rank_now.specs.declared.moment.Moment.{Moment}
use Rattle.policy_pick.specs.Plan.{Plan, SpeaksOf, ByPoints, ByMoments}
use Rattle.policy_pick.specs.declared.policy.Policy.{Ghosts}
use Rattle.turn_book.specs.Told.{BookState, new_book}
use Rattle.turn_lock.specs.Rule.{first_view}
use Rattle.turn_lock.specs.Calls.{first_book}
use Rattle.turn_lock.specs.Views.{view}
use Rattle.turn_lock.specs.declared.held.TurnLock.{TurnLock}
use Rattle.worker_run.specs.Run.{run, directed_run}
use Rattle.worker_run.specs.Played.{IsPlayed, IsRun}
use Rattle.worker_run.specs.Served.{first_runners}
use Rattle.worker_run.specs.Batch.{IsThreadTold}
use Rattle.worker_run.specs.declared.batch.Test.{Test}
use Rattle.worker_run.specs.declared.runner.Runner.{Runner}
use Rattle.worker_run.specs.declared.batch.Share.{Share}
use Rattle.worker_run.specs.declared.played.Played.{Played}

-- The run is what a plan makes of bodies within a limit; where the plan is an order with change
-- points or with moments, it is the run of these.
pub record IsRunBy (plan : Plan) (deal : Deal) (bodies : List Pending) (limit : ℕ) (ended : Played)
    : Type 0 where
  pub played : IsPlayed plan deal bodies limit ended.events ended.outcome
  pub by_points : (order points : List ℕ) → plan ≡ ByPoints order points
      → IsRun (run deal bodies order points limit) ended.events ended.outcome
  pub by_moments : (order : List ℕ) (moments : List Moment) → plan ≡ ByMoments order moments
      → IsRun (directed_run deal bodies order moments limit) ended.events ended.outcome

module _ {P : Type 0} {B : Type 0} (pending : B → Pending) (plan : P → Plan) where
  -- what its bodies post
  abbrev pub bodies_in : Test P B → List Pending
  bodies_in test = map pending test.bodies.items

  -- a policy that speaks of the test's threads and has seen no step yet, and a body for each
  -- thread, which names only what there is
  pub record IsTest (stands_for : P → List ℕ → Type 0) (test : Test P B) : Type 0 where
    pub stands : stands_for test.policy []
    pub speaks : SpeaksOf (plan test.policy) test.deal.threads
    pub bodies : length test.bodies.items ≡ test.deal.threads
    pub in_range : AreInRange (sizes_of_deal test.deal) (bodies_in test)

  -- each of the tests is one
  abbrev pub AreTests : (P → List ℕ → Type 0) → List (Test P B) → Type 0
  AreTests stands_for tests = (i : ℕ) (test : Test P B) → slice_get tests i ≡ Some test
      → IsTest stands_for test

  -- the run is what the test's policy makes of its bodies within its limit
  abbrev pub IsRunOf : Test P B → Played → Type 0
  IsRunOf test = IsRunBy (plan test.policy) test.deal (bodies_in test) test.limit

  -- the shares have seen that every thread was served
  abbrev pub AllTold : {policy : Ghosts P} → List (Test P B) → List (Share P B policy) → Type 0
  AllTold {policy} tests shares = (i t : ℕ) (test : Test P B) (share : Share P B policy)
      → slice_get tests i ≡ Some test → slice_get shares i ≡ Some share → t < test.deal.threads
      → IsThreadTold (bodies_in test) t (view share.seat)

module _ {P : Type 0} {B : Type 0} (plan : P → Plan) where
  -- a lock that was made for the test
  abbrev pub IsLockOf : Test P B → TurnLock P → Type 0
  IsLockOf test lock = first_book lock ≡ new_book test.deal test.limit (plan test.policy)

  -- a share before the first post: it has the first seat of the test's lock, and a new runner for
  -- each body
  pub record IsFirstShare {policy : Ghosts P} (test : Test P B)
      (share : Share P B policy) : Type 0 where
    pub view_is : view share.seat ≡ first_view (new_book test.deal test.limit (plan test.policy))
    pub runners_are : share.runners.items ≡ first_runners test.bodies.items

-- a book in which nothing has happened, by a plan that speaks of its threads
pub record IsNew (book : BookState) : Type 0 where
  pub made : book ≡ new_book book.deal book.limit book.plan
  pub speaks : SpeaksOf book.plan book.deal.threads

-- new runners of bodies, one for each thread, which name only what there is
pub record AreNewRunners {B : Type 0} (pending : B → Pending) (deal : Deal)
    (runners : List (Option (Runner B))) : Type 0 where
  pub bodies : List B
  pub are : runners ≡ first_runners bodies
  pub one_each : length bodies ≡ deal.threads
  pub in_range : AreInRange (sizes_of_deal deal) (map pending bodies)
