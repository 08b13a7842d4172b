-- The steps that a policy's plan lets threads take, and how they end (PCT's rule for each step;
-- what is known of a thread, lists and the limit are this project's).
use Rattle.std.specs.Prelude.{◌≡◌, ◌≤◌, ℕ, ◌==◌, Bool, if◌then◌else◌, List, ◌∷◌, ◌++◌, length}
use Rattle.std.specs.Prelude.{Option, Some, None}
use Rattle.std.specs.Option.{option_map, option_and_then}
use Rattle.pct_ask.specs.declared.Deal.{Deal}
use Rattle.pct_ask.specs.declared.event.Event.{Event}
use Rattle.pct_ask.specs.declared.verdict.Verdict.{Verdict}
use Rattle.pct_ask.specs.declared.verdict.Verdict.TheVariants.{Cut}
use Rattle.pct_ask.specs.declared.verdict.Outcome.{Outcome}
use Rattle.pct_ask.specs.declared.verdict.Outcome.TheVariants.{Verdict as Ends, Departed}
use Rattle.sync_store.specs.Store.{first_store}
use Rattle.sync_store.specs.World.{Source, World, world_after}
use Rattle.policy_pick.specs.declared.chance.Pick.{Pick}
use Rattle.policy_pick.specs.declared.chance.Pick.TheVariants.{Thread, Waits, Nobody, Departs}
use Rattle.policy_pick.specs.Plan.{Plan}
use Rattle.policy_pick.specs.Choice.{choice}
use Rattle.turn_book.specs.Chances.{NextPosts, chances, rest_verdict}
use Rattle.turn_book.specs.Posts.{schedule_of}

-- each thread's next post in a world
abbrev pub next_posts_in : Source → World → NextPosts
next_posts_in source world t = source t world.events

-- the plan's choice in a world, after the schedule that led to it
abbrev pub choice_in : Plan → ℕ → Source → List ℕ → World → Pick
choice_in plan threads source schedule world =
    choice plan schedule (chances threads world.store (next_posts_in source world))

-- the plan's choice after a schedule; nothing where the schedule can't be
abbrev pub choice_after : Plan → Deal → Source → List ℕ → Option Pick
choice_after plan deal source schedule =
    option_map (choice_in plan deal.threads source schedule)
    (world_after (first_store deal) source schedule)

-- Steps obey a plan: each was taken by the thread that the plan chose after those before it, they
-- are those that the store made of the posts, and there are at most `limit` of them.
pub record Obeys (plan : Plan) (deal : Deal) (source : Source) (limit : ℕ) (events : List Event)
    : Type 0 where
  pub chosen : (before after : List Event) (e : Event) → events ≡ before ++ e ∷ after
      → choice_after plan deal source (schedule_of before) ≡ Some (Thread e.thread)
  pub made :
      option_map (λ world. world.events)
      (world_after (first_store deal) source (schedule_of events))
      ≡ Some events
  pub within : length events ≤ limit

-- what becomes of a run by the choice after its last step; `full` where it has as many steps as it
-- may have
abbrev pub outcome_by_pick : Verdict → Bool → Pick → Option Outcome
outcome_by_pick rest full Nobody = Some (Ends rest)
outcome_by_pick rest full (Thread t) = if full then Some (Ends Cut) else None
outcome_by_pick rest full (Departs t) = if full then Some (Ends Cut) else Some (Departed t)
outcome_by_pick rest full (Waits t) = None

-- the verdict of the last step, where that ended the run, and else another outcome, if any
abbrev pub outcome_by : Option Verdict → Option Outcome → Option Outcome
outcome_by (Some verdict) otherwise = Some (Ends verdict)
outcome_by None otherwise = otherwise

-- what became of a run in a world: by its last step's verdict, or else by the plan's choice
abbrev pub outcome_in : Plan → ℕ → Source → Bool → List ℕ → World → Option Outcome
outcome_in plan threads source full schedule world =
    outcome_by world.verdict
    (outcome_by_pick (rest_verdict threads world.store (next_posts_in source world)) full
    (choice_in plan threads source schedule world))

-- What became of a run after these steps, by the first of these: the verdict of the last step;
-- where nobody may go on, Passed or Stuck; at the limit Cut, where it would go on or depart; the
-- thread at which it departs; else nothing yet.
abbrev pub outcome_after : Plan → Deal → Source → ℕ → List Event → Option Outcome
outcome_after plan deal source limit events =
    option_and_then
    (outcome_in plan deal.threads source (length events == limit) (schedule_of events))
    (world_after (first_store deal) source (schedule_of events))
