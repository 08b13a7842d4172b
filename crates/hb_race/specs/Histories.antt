-- What is known of all variables after some steps of a run.
use Rattle.std.specs.Prelude.{◌≡◌, ℕ, ◌+◌, ◌<◌, List, length, Option, slice_index_or}
use Rattle.pct_ask.specs.declared.event.Event.{Event}
use Rattle.hb_race.specs.declared.access.Access.{Access}
use Rattle.hb_race.specs.declared.history.History.{History}
use Rattle.hb_race.specs.Clocks.{stamp}
use Rattle.hb_race.specs.Accesses.{access_of}
use Rattle.hb_race.specs.Table.{event_at, steps_of, accesses_of}
use Rattle.hb_race.specs.Lasts.{IsHistory, new_history, no_history}
use Rattle.pct_ask.specs.declared.limits.TheConstants.{MAX_THREADS}

-- so many variables have no accesses yet
abbrev pub AreNewHistories : ℕ → List History → Type 0
AreNewHistories vars histories =
    (x : ℕ) → x < vars → slice_index_or histories x no_history ≡ new_history

-- each variable's history is that of its accesses by the first n steps
abbrev pub AreHistories : List Event → ℕ → List History → Type 0
AreHistories events n histories =
    (x : ℕ) → x < length histories
    → IsHistory (steps_of events) (accesses_of events x) x n (slice_index_or histories x no_history)

-- what is noted of the step n: its access, its number, its thread and its clock
pub record IsNoted
    (events : List Event) (n : ℕ) (access : Option Access) (step thread : ℕ) (clock : List ℕ)
    : Type 0 where
  pub within : n < length events
  pub accesses : access ≡ access_of (event_at events n)
  pub number : step ≡ n + 1
  pub own_step : (event_at events n).thread ≡ thread
  pub threads : (i : ℕ) → (event_at events i).thread < MAX_THREADS
  pub stamped : (u : ℕ) → slice_index_or clock u 0 ≡ stamp (steps_of events) n u
