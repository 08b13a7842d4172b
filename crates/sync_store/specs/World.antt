-- What has happened after a schedule: the store, the steps and perhaps a verdict (this project).
use Rattle.std.specs.Prelude.{ℕ, ℤ, pos, ◌==◌, Bool, false, if◌then◌else◌, List, [], ◌∷◌, ◌++◌}
use Rattle.std.specs.Prelude.{filter, map, Option, Some, None, is_none}
use Rattle.std.specs.Option.{option_and_then, option_map_or}
use Rattle.pct_ask.specs.declared.ask.Ask.{Ask}
use Rattle.pct_ask.specs.declared.ask.Post.{Post}
use Rattle.pct_ask.specs.declared.event.Event.{Event}
use Rattle.pct_ask.specs.declared.verdict.Verdict.{Verdict}
use Rattle.sync_store.specs.Store.{StoreState}
use Rattle.sync_store.specs.Enabled.{enabled}
use Rattle.sync_store.specs.Effect.{Effect, Goes, Stops, effect}

-- a thread's next post after some steps, where it is known (this project)
abbrev pub Source : Type 0
Source = ℕ → List Event → Option Post

-- the answers that a thread has had, in their order
abbrev pub answers_of : ℕ → List Event → List ℤ
answers_of t events = map (λ e. e.answer) (filter (λ e. e.thread == t) events)

-- the posts of bodies: what each thread posts after the answers that it has had
abbrev pub posts_of_bodies : (ℕ → List ℤ → Post) → Source
posts_of_bodies pending t events = Some (pending t (answers_of t events))

-- the store, the steps that were taken, and the verdict once one of them has ended the run
pub record World : Type 0 where
  pub store : StoreState
  pub events : List Event
  pub verdict : Option Verdict

-- no step has been taken yet
abbrev pub first_world : StoreState → World
first_world store = record { store = store; events = []; verdict = None }

-- whether a thread is known to have ended
abbrev pub has_ended : Source → List Event → ℕ → Bool
has_ended source events t = option_map_or (λ post. is_none post.ask) (source t events) false

-- one step more: it is noted with its answer, or with 0 and the verdict where it ends the run,
-- and then the store stays as it was
abbrev pub with_effect : World → ℕ → ℕ → Ask → Effect → World
with_effect world t line ask (Goes after answer) = record {
  store = after;
  events = world.events ++ record { thread = t; line = line; ask = ask; answer = answer } ∷ [];
  verdict = None;
}
with_effect world t line ask (Stops verdict) = record {
  store = world.store;
  events = world.events ++ record { thread = t; line = line; ask = ask; answer = pos 0 } ∷ [];
  verdict = Some verdict;
}

-- a thread takes the step that it asks, where it may
abbrev pub step_on : Source → World → ℕ → ℕ → Option Ask → Option World
step_on source world t line None = None
step_on source world t line (Some ask) =
    if enabled world.store (has_ended source world.events) t ask
    then Some (with_effect world t line ask (effect world.store t line ask))
    else None

-- a thread takes the step of its next post, where that is known and the thread may go on
abbrev pub step_by : Source → World → ℕ → Option Post → Option World
step_by source world t None = None
step_by source world t (Some post) = step_on source world t post.line post.ask

-- a step after a verdict is undefined
abbrev pub world_by_step : Source → World → ℕ → Option World
world_by_step source world t =
    if is_none world.verdict then step_by source world t (source t world.events) else None

-- what has happened once the threads of a list have each taken a step in turn
abbrev pub world_from : Source → World → List ℕ → Option World
world_from source world [] = Some world
world_from source world (t ∷ ts) =
    option_and_then (λ next. world_from source next ts) (world_by_step source world t)

-- The world after a schedule, a list of threads, each of which takes its next post's ask in turn.
-- Nothing where one of them can't.
abbrev pub world_after : StoreState → Source → List ℕ → Option World
world_after store source schedule = world_from source (first_world store) schedule
