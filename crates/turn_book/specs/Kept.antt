-- What a book keeps, and how it is told (this project). Nothing here is needed to read a public
-- contract.
use Rattle.std.specs.Prelude.{◌≡◌, ◌≤◌, ℕ, suc, List, [], ◌∷◌, ◌++◌, length, map, Option, Some}
use Rattle.std.specs.Prelude.{None, option_to_list}
use Rattle.pct_ask.specs.declared.ask.Post.{Post}
use Rattle.pct_ask.specs.declared.Deal.{Deal}
use Rattle.pct_ask.specs.declared.event.Event.{Event}
use Rattle.pct_ask.specs.declared.verdict.Verdict.{Verdict}
use Rattle.pct_ask.specs.declared.verdict.Outcome.{Outcome}
use Rattle.pct_ask.specs.Objects.{sizes_of_deal}
use Rattle.sync_store.specs.Store.{sizes_of, first_store}
use Rattle.sync_store.specs.World.{Source, world_after}
use Rattle.policy_pick.specs.declared.chance.Pick.{Pick}
use Rattle.policy_pick.specs.Plan.{Plan, SpeaksOf}
use Rattle.policy_pick.specs.Choice.{choice}
use Rattle.turn_book.specs.Chances.{chances}
use Rattle.turn_book.specs.Posts.{schedule_of, own_events, source_of}
use Rattle.turn_book.specs.Obeys.{Obeys, outcome_after}
use Rattle.turn_book.specs.Told.{BookState, post_of_event}
use Rattle.turn_book.specs.Board.{BoardState, next_posts_of}
use Rattle.pct_ask.specs.declared.limits.TheConstants.{MAX_STEPS}

-- from the thread k on, the posts of threads that took these steps and have these next posts
abbrev pub posts_from : List Event → ℕ → List (Option Post) → List (List Post)
posts_from events k [] = []
posts_from events k (next ∷ more) =
    (map post_of_event (own_events k events) ++ option_to_list next)
    ∷ posts_from events (suc k) more

-- each thread's posts: those of its steps, and its next one where that is known
abbrev pub posts_by : List Event → List (Option Post) → List (List Post)
posts_by events next = posts_from events 0 next

-- a book of which this is known, as contracts see it
abbrev pub book_of_parts : Deal → ℕ → Plan → List (Option Post) → List Event → Option Outcome
    → BookState
book_of_parts deal limit plan next events outcome = record {
  deal = deal;
  limit = limit;
  plan = plan;
  posts = posts_by events next;
  trace = events;
  outcome = outcome;
}

-- the store is that of the world after the steps
pub record IsAt (deal : Deal) (source : Source) (events : List Event) (board : BoardState)
    : Type 0 where
  pub verdict : Option Verdict
  pub world : world_after (first_store deal) source (schedule_of events)
      ≡ Some (record { store = board.store; events = events; verdict = verdict })

-- what a book keeps beside what it tells
pub record IsKept (deal : Deal) (limit : ℕ) (plan : Plan) (board : BoardState) (events : List Event)
    (next : Pick) (last : Option Outcome) (reserved : ℕ) : Type 0 where
  pub sizes : sizes_of board.store ≡ sizes_of_deal deal
  pub threads : length board.posts ≡ deal.threads
  pub speaks : SpeaksOf plan deal.threads
  pub some_steps : 1 ≤ limit
  pub few_steps : limit ≤ MAX_STEPS
  pub room : limit ≤ reserved
  pub at : IsAt deal (source_of (posts_by events board.posts)) events board
  pub obeys : Obeys plan deal (source_of (posts_by events board.posts)) limit events
  pub outcome : last
      ≡ outcome_after plan deal (source_of (posts_by events board.posts)) limit events
  pub pick : last ≡ None
      → next
      ≡ choice plan (schedule_of events)
      (chances deal.threads board.store (next_posts_of board.posts))
