-- What is known of a thread's ask while some threads haven't posted (this project).
use Rattle.std.specs.Prelude.{ℕ, Bool, true, false, if◌then◌else◌, List, Option, Some, None}
use Rattle.std.specs.Prelude.{slice_get}
use Rattle.pct_ask.specs.declared.Ask.{Ask}
use Rattle.pct_ask.specs.declared.Ask.TheVariants.{Join}
use Rattle.pct_ask.specs.declared.Standing.{Standing}
use Rattle.pct_ask.specs.declared.Standing.TheVariants.{Away, Asks, Ended}
use Rattle.sync_store.specs.declared.ready.Ready.{Ready}
use Rattle.sync_store.specs.declared.ready.Ready.TheVariants.{Yes, No, Unknown}
use Rattle.sync_store.specs.Store.{StoreState}
use Rattle.sync_store.specs.Enabled.{enabled}

-- the thread that a join waits for
abbrev pub join_target : Ask → Option ℕ
join_target (Join u) = Some u
join_target _ = None

-- the thread that a join waits for, where its next post isn't known
abbrev pub unknown_target : (ℕ → Bool) → Option ℕ → Option ℕ
unknown_target away None = None
unknown_target away (Some u) = if away u then Some u else None

-- unknown where there is such a thread, else by whether the ask is enabled
abbrev pub ready_by : Option ℕ → Bool → Ready
ready_by (Some u) is_enabled = Unknown u
ready_by None is_enabled = if is_enabled then Yes else No

-- What is known of an ask of the thread t: Unknown exactly where it joins a thread whose next post
-- isn't known, and else whether it is enabled. `away` tells whose next post isn't known, and
-- `ended` who has ended.
abbrev pub readiness : StoreState → (ℕ → Bool) → (ℕ → Bool) → ℕ → Ask → Ready
readiness store away ended t ask =
    ready_by (unknown_target away (join_target ask)) (enabled store ended t ask)

-- of a thread's standing: whether its next post isn't known
abbrev pub standing_is_away : Option Standing → Bool
standing_is_away (Some Away) = true
standing_is_away (Some Asks) = false
standing_is_away (Some Ended) = false
standing_is_away None = false

-- of a thread's standing: whether it has ended
abbrev pub standing_is_ended : Option Standing → Bool
standing_is_ended (Some Ended) = true
standing_is_ended (Some Away) = false
standing_is_ended (Some Asks) = false
standing_is_ended None = false

-- by the standings of all threads: whether a thread's next post isn't known
abbrev pub away_by : List Standing → ℕ → Bool
away_by standings u = standing_is_away (slice_get standings u)

-- by the standings of all threads: whether a thread has ended
abbrev pub ended_by : List Standing → ℕ → Bool
ended_by standings u = standing_is_ended (slice_get standings u)
