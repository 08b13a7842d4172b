-- A book of turns as plain data, and what its calls make of it (this project).
use Rattle.std.specs.Prelude.{◌≡◌, ◌≤◌, ℕ, ℤ, List, [], ◌∷◌, ◌++◌, length, map, replicate, Option}
use Rattle.std.specs.Prelude.{Some, None, option_to_list, slice_set}
use Rattle.pct_ask.specs.declared.ask.Ask.{Ask}
use Rattle.pct_ask.specs.declared.ask.Post.{Post}
use Rattle.pct_ask.specs.declared.Deal.{Deal}
use Rattle.pct_ask.specs.declared.event.Event.{Event}
use Rattle.pct_ask.specs.declared.event.Standing.{Standing}
use Rattle.pct_ask.specs.declared.event.Standing.TheVariants.{Away, Asks, Ended}
use Rattle.pct_ask.specs.declared.verdict.Outcome.{Outcome}
use Rattle.policy_pick.specs.declared.chance.Pick.{Pick}
use Rattle.policy_pick.specs.Plan.{Plan, SpeaksOf}
use Rattle.turn_book.specs.Posts.{schedule_of, own_events, posts_of, source_of, HasMore}
use Rattle.turn_book.specs.Obeys.{choice_after, Obeys, outcome_after}
use Rattle.pct_ask.specs.declared.limits.TheConstants.{MAX_STEPS}

-- what it was made with, the posts of each thread, the steps, and what became of the run
pub record BookState : Type 0 where
  pub deal : Deal
  pub limit : ℕ
  pub plan : Plan
  pub posts : List (List Post)
  pub trace : List Event
  pub outcome : Option Outcome

-- a book in which nothing has happened
abbrev pub new_book : Deal → ℕ → Plan → BookState
new_book deal limit plan = record {
  deal = deal;
  limit = limit;
  plan = plan;
  posts = replicate deal.threads [];
  trace = [];
  outcome = None;
}

-- a thread's next post, where the book has it
abbrev pub next_post : BookState → ℕ → Option Post
next_post book t = source_of book.posts t book.trace

-- the standing of a thread whose next post is known: it asks, or without an ask has ended
abbrev pub standing_by_ask : Option Ask → Standing
standing_by_ask None = Ended
standing_by_ask (Some ask) = Asks

-- a thread's standing by its next post: it is away where that isn't known
abbrev pub standing_by : Option Post → Standing
standing_by None = Away
standing_by (Some post) = standing_by_ask post.ask

-- what is known of a thread's next post
abbrev pub standing_of : BookState → ℕ → Standing
standing_of book t = standing_by (next_post book t)

-- the plan's choice after the book's steps
abbrev pub choice_of : BookState → Option Pick
choice_of book = choice_after book.plan book.deal (source_of book.posts) (schedule_of book.trace)

-- the post that a step was made of
abbrev pub post_of_event : Event → Post
post_of_event e = record { ask = Some e.ask; line = e.line }

-- What every book keeps: its steps obey its plan over its posts, and its outcome is what became of
-- the run. A thread's posts are those of its own steps, and its next one.
pub record IsLawful (book : BookState) : Type 0 where
  pub obeys : Obeys book.plan book.deal (source_of book.posts) book.limit book.trace
  pub outcome : book.outcome
      ≡ outcome_after book.plan book.deal (source_of book.posts) book.limit book.trace
  pub threads : length book.posts ≡ book.deal.threads
  pub posts : (t : ℕ) → posts_of book.posts t
      ≡ map post_of_event (own_events t book.trace) ++ option_to_list (next_post book t)
  pub speaks : SpeaksOf book.plan book.deal.threads
  pub some_steps : 1 ≤ book.limit
  pub few_steps : book.limit ≤ MAX_STEPS

-- it was made with the same
pub record SameMaking (old new : BookState) : Type 0 where
  pub deal : new.deal ≡ old.deal
  pub limit : new.limit ≡ old.limit
  pub plan : new.plan ≡ old.plan

-- the thread's post was added
pub record IsPosted (old : BookState) (t : ℕ) (post : Post) (new : BookState) : Type 0 where
  pub making : SameMaking old new
  pub trace : new.trace ≡ old.trace
  pub posts : new.posts ≡ slice_set old.posts t (posts_of old.posts t ++ post ∷ [])

-- the thread took the step that it asked, with this answer
pub record IsAnswered (old : BookState) (t : ℕ) (told_answer : ℤ) (new : BookState) : Type 0 where
  pub event : Event
  pub making : SameMaking old new
  pub trace : new.trace ≡ old.trace ++ event ∷ []
  pub posts : new.posts ≡ old.posts
  pub thread : event.thread ≡ t
  pub answer : event.answer ≡ told_answer
  pub asked : next_post old t ≡ Some (post_of_event event)

-- A whole run over the book's posts, and perhaps more: steps that obey the book's plan and are
-- settled.
pub record IsRunOver (book : BookState) (posts : List (List Post)) (events : List Event)
    : Type 0 where
  pub outcome : Outcome
  pub more : HasMore book.posts posts
  pub obeys : Obeys book.plan book.deal (source_of posts) book.limit events
  pub ends : outcome_after book.plan book.deal (source_of posts) book.limit events ≡ Some outcome

-- A later sight of a book: what it was made with is the same, and its steps and each thread's posts
-- begin with those of the earlier one.
pub record Within (earlier later : BookState) : Type 0 where
  pub making : SameMaking earlier later
  pub rest : List Event
  pub trace : later.trace ≡ earlier.trace ++ rest
  pub posts : HasMore earlier.posts later.posts
