-- Tests that run at once, each under a lock of its own (this project).
use Rattle.std.specs.Prelude.{◌≡◌, ◌<◌, ◌≤◌, ◌⊎◌, ℕ, Bool, true, false, List, [], ◌∷◌, length, map}
use Rattle.std.specs.Prelude.{Option, Some, None, slice_get}
use Rattle.pct_ask.specs.declared.event.Standing.TheVariants.{Ended}
use Rattle.pct_ask.specs.Objects.{sizes_of_deal}
use Rattle.pct_ask.specs.Bodies.{Pending, no_body, pending_of, AreInRange}
use Rattle.policy_pick.specs.Plan.{SpeaksOf}
use Rattle.policy_pick.specs.declared.policy.Policy.{Ghosts}
use Rattle.turn_book.specs.Posts.{source_of}
use Rattle.turn_book.specs.Obeys.{outcome_after}
use Rattle.turn_book.specs.Told.{BookState, standing_of}
use Rattle.turn_lock.specs.Seen.{ObeysPlan, posts_seen}
use Rattle.turn_lock.specs.Rule.{Serves}
use Rattle.turn_lock.specs.Calls.{first_book}
use Rattle.turn_lock.specs.Views.{view, HasSeat}
use Rattle.turn_lock.specs.declared.view.View.{View}
use Rattle.turn_lock.specs.declared.held.TurnLock.{TurnLock}
use Rattle.turn_lock.specs.declared.seat.Seat.{Seat}
use Rattle.worker_run.specs.Served.{Follows, IsShare, AllOwe, IsOver, IsServed}
use Rattle.worker_run.specs.declared.runner.Runner.{Runner}
use Rattle.worker_run.specs.declared.batch.RunningTest.{RunningTest}
use Rattle.worker_run.specs.declared.batch.Share.{Share}
use Rattle.worker_run.specs.declared.batch.Task.{Task}
use Rattle.worker_run.specs.declared.batch.Task.TheVariants.{Absent, Waiting, Served}

-- Two lists are of one length, and the items at each index are related.
pub record Each {X : Type 0} {Y : Type 0} (R : X → Y → Type 0) (xs : List X)
    (ys : List Y) : Type 0 where
  pub long : length ys ≡ length xs
  pub each : (i : ℕ) (x : X) (y : Y) → slice_get xs i ≡ Some x → slice_get ys i ≡ Some y → R x y

-- ---- What follows is for this crate's own use.

-- what a thread's runner posts, if there is one
abbrev pub posts_at : {B : Type 0} → (B → Pending) → Option (Runner B) → Pending
posts_at pending None = no_body
posts_at pending (Some runner) = pending runner.body

-- what the bodies of a test post
abbrev pub bodies_on : {P : Type 0} {B : Type 0} → (B → Pending) → RunningTest P B → List Pending
bodies_on pending test = map (λ index. posts_at pending index) (test.runners).value.items

-- a body for each thread, which names only what there is
pub record IsRunningTest {P : Type 0} {B : Type 0} (pending : B → Pending)
    (test : RunningTest P B) : Type 0 where
  pub in_range : AreInRange (sizes_of_deal (first_book test.lock.now).deal)
      (bodies_on pending test)

-- Threads that there aren't have no posts.
abbrev pub NoneOutside : BookState → Type 0
NoneOutside seen = (t : ℕ) → seen.deal.threads ≤ t → posts_seen seen t ≡ []

-- a seat of the lock, which has seen no posts of others
pub record IsSeatOf {P : Type 0} {policy : Ghosts P} (lock : TurnLock P)
    (seat : Seat P policy) : Type 0 where
  pub of : HasSeat lock seat
  pub outside : NoneOutside (view seat).seen

-- The share's seat serves the threads that it has runners for, and none has posted.
pub record IsShareOf {P : Type 0} {policy : Ghosts P} {B : Type 0} (pending : B → Pending)
    (test : RunningTest P B) (share : Share P B policy) : Type 0 where
  pub test_is : IsRunningTest pending test
  pub seat_is : IsSeatOf test.lock.now share.seat
  pub runs : IsShare pending (pending_of (bodies_on pending test)) 0 share.runners.items
      (view share.seat)
  pub owe : AllOwe (view share.seat)
  pub long : length share.runners.items ≡ (first_book test.lock.now).deal.threads

-- a seat for one thread alone, with its runner, that has not posted
pub record IsWaiting {P : Type 0} {policy : Ghosts P} {B : Type 0} (pending : B → Pending)
    (test : RunningTest P B) (t : ℕ) (seat : Seat P policy) (runner : Runner B) : Type 0 where
  pub test_is : IsRunningTest pending test
  pub seat_is : IsSeatOf test.lock.now seat
  pub runs : IsShare pending (pending_of (bodies_on pending test)) t (Some runner ∷ []) (view seat)
  pub owe : AllOwe (view seat)
  pub below : t < (first_book test.lock.now).deal.threads

-- The thread was served by its body until the run was over or it had ended.
pub record IsThreadServed (bodies : List Pending) (t : ℕ) (v : View) : Type 0 where
  pub serves : Serves v t
  pub follows : Follows (pending_of bodies t) t v.seen
  pub speaks : SpeaksOf v.seen.plan v.seen.deal.threads
  pub done : IsOver v.seen ⊎ (standing_of v.seen t ≡ Ended)

-- and what was seen obeys the plan, and says what became of the run
pub record IsThreadTold (bodies : List Pending) (t : ℕ) (v : View) : Type 0 where
  pub served : IsThreadServed bodies t v
  pub obeys : ObeysPlan v.seen
  pub told : v.seen.outcome ≡ outcome_after v.seen.plan v.seen.deal
      (source_of v.seen.posts) v.seen.limit v.seen.trace

-- whether the test has the thread
abbrev pub is_there : {P : Type 0} {policy : Ghosts P} {B : Type 0} → Task P B policy → Bool
is_there Absent = false
is_there (Waiting seat runner) = true
is_there (Served seat) = true

-- a task that was served, if it is there
abbrev pub IsServedTask : {P : Type 0} {policy : Ghosts P} {B : Type 0} → (B → Pending)
    → RunningTest P B
    → ℕ → Task P B policy → Type 0
IsServedTask pending test t Absent = Unit {0}
IsServedTask pending test t (Waiting seat runner) = ⊥
IsServedTask pending test t (Served seat) =
    IsSeatOf test.lock.now seat × IsThreadServed (bodies_on pending test) t (view seat)

-- or is to be
abbrev pub IsTask : {P : Type 0} {policy : Ghosts P} {B : Type 0} → (B → Pending) → RunningTest P B
    → ℕ
    → Task P B policy → Type 0
IsTask pending test t Absent = Unit {0}
IsTask pending test t (Waiting seat runner) = IsWaiting pending test t seat runner
IsTask pending test t (Served seat) =
    IsSeatOf test.lock.now seat × IsThreadServed (bodies_on pending test) t (view seat)

-- A task that waited was served: its body was, by its seat, and the seat is of the table of which
-- it was.
pub record WasServed {P : Type 0} {policy : Ghosts P} {B : Type 0} (pending : B → Pending) (t : ℕ)
    (before after : Task P B policy) : Type 0 where
  pub seat : Seat P policy
  pub runner : Runner B
  pub back : Seat P policy
  pub waited : before ≡ Waiting seat runner
  pub is : after ≡ Served back
  pub table : back.seat.table_id ≡ seat.seat.table_id
  pub served : (start : ℕ → Pending) → IsShare pending start t (Some runner ∷ []) (view seat)
      → IsServed start (view seat) (view back)

-- a task that comes back from its worker: it is as it was, or was served
abbrev pub IsTaskBack : {P : Type 0} {policy : Ghosts P} {B : Type 0} → (B → Pending) → ℕ
    → Task P B policy → Task P B policy → Type 0
IsTaskBack pending t before after = (after ≡ before) ⊎ WasServed pending t before after
