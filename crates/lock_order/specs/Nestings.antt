-- Which mutexes a thread holds at a step of a list of events, and how mutexes are nested in one
-- another: the edges of the lock order graph. (The asks are those of POSIX threads; the graph is
-- this project's.)
use Rattle.std.specs.Prelude.{◌≡◌, ◌<◌, ℕ, zero, suc, ℤ, pos, List, Option, Some, None, slice_get}
use Rattle.std.specs.List.{All}
use Rattle.pct_ask.specs.declared.ask.Ask.{Ask}
use Rattle.pct_ask.specs.declared.ask.Ask.TheVariants.{Lock, TryLock, Unlock, Release, Regain}
use Rattle.pct_ask.specs.declared.event.Event.{Event}
use Rattle.pct_ask.specs.declared.Deal.{Deal}
use Rattle.pct_ask.specs.Objects.{sizes_of_deal, EventIsInRange}
use Rattle.lock_order.specs.declared.nesting.Nesting.{Nesting}

-- all events of the list name only threads and objects of the deal (the limits of a test)
abbrev pub AreEventsInRange : Deal → List Event → Type 0
AreEventsInRange deal events = All (EventIsInRange (sizes_of_deal deal)) events

-- the events are those of some test
abbrev pub AreOfSomeDeal : List Event → Type 0
AreOfSomeDeal events = (deal : Deal) × AreEventsInRange deal events

-- the event of a step; steps are counted from 1
abbrev pub event_at_step : List Event → ℕ → Option Event
event_at_step events zero = None
event_at_step events (suc place) = slice_get events place

-- An ask with this answer takes the mutex: it locks it, or tries to and is answered 1, or it is the
-- end of a wait, at which the mutex is taken again (POSIX: pthread_mutex_lock,
-- pthread_mutex_trylock, pthread_cond_wait).
abbrev pub TakesBy : Ask → ℤ → ℕ → Type 0
TakesBy (Lock m) answer mutex = m ≡ mutex
TakesBy (TryLock m) answer mutex = (answer ≡ pos 1) × (m ≡ mutex)
TakesBy (Regain c m) answer mutex = m ≡ mutex
TakesBy _ answer mutex = ⊥

-- an ask lets the mutex go: it unlocks it, or begins a wait (POSIX: pthread_mutex_unlock,
-- pthread_cond_wait)
abbrev pub LetsGoBy : Ask → ℕ → Type 0
LetsGoBy (Unlock m) mutex = m ≡ mutex
LetsGoBy (Release c m) mutex = m ≡ mutex
LetsGoBy _ mutex = ⊥

-- the step is the thread's, and takes the mutex
pub record Takes (events : List Event) (step thread mutex : ℕ) : Type 0 where
  pub event : Event
  pub at : event_at_step events step ≡ Some event
  pub by : event.thread ≡ thread
  pub taken : TakesBy event.ask event.answer mutex

-- the step is the thread's, and lets the mutex go
pub record LetsGo (events : List Event) (step thread mutex : ℕ) : Type 0 where
  pub event : Event
  pub at : event_at_step events step ≡ Some event
  pub by : event.thread ≡ thread
  pub gone : LetsGoBy event.ask mutex

-- the thread holds the mutex before the step: it took it at an earlier one, and let it go at none
-- in between
pub record HoldsMutex (events : List Event) (thread mutex step : ℕ) : Type 0 where
  pub since : ℕ
  pub earlier : since < step
  pub taken : Takes events since thread mutex
  pub kept : (between : ℕ) → since < between → between < step → ¬ LetsGo events between thread mutex

-- at the nesting's step its thread takes the one mutex while it holds the other
pub record IsNesting (events : List Event) (nesting : Nesting) : Type 0 where
  pub takes : Takes events nesting.step nesting.thread nesting.taken
  pub holds : HoldsMutex events nesting.thread nesting.held nesting.step
