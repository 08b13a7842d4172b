-- What is read of a book (this project).
use Rattle.std.specs.Prelude.{◌≡◌, ◌≢◌, ◌≤◌, ◌<◌, ◌+◌, ◌⊎◌, ℕ, List, length, take, drop}
use Rattle.std.specs.Prelude.{Some, None}
use Rattle.pct_ask.specs.declared.ask.Post.{Post}
use Rattle.pct_ask.specs.declared.event.Event.{Event}
use Rattle.pct_ask.specs.declared.verdict.Outcome.{Outcome}
use Rattle.c_values.specs.declared.event.PctEvent.{PctEvent}
use Rattle.c_values.specs.declared.outcome.PctOutcome.{PctOutcome}
use Rattle.c_values.specs.Events.{SayEvents}
use Rattle.c_values.specs.Outcomes.{outcome_numbers}
use Rattle.turn_book.specs.Told.{BookState, IsRunOver}
use Rattle.pct_c.specs.declared.status.PctCount.{PctCount}

-- the number of steps is told, and nothing changes
pub record TellsLength (counted : PctCount) (old new : BookState) : Type 0 where
  pub done : counted.status ≡ 0
  pub count : counted.count ≡ length old.trace
  pub stays : new ≡ old

-- Done where there are so many steps after the first ones, and then these are they. Bad where there
-- are fewer.
pub record TellsSteps (first status : ℕ) (before after : List PctEvent) (old new : BookState)
    : Type 0 where
  pub done : status ≡ 0 → (first + length before ≤ length old.trace)
      × SayEvents after (take (length before) (drop first old.trace))
  pub bad : status ≡ 5 → length old.trace < first + length before
  pub statuses : (status ≡ 0) ⊎ (status ≡ 5)
  pub unwritten : status ≢ 0 → after ≡ before
  pub stays : new ≡ old

-- Whatever else the threads may post, every whole run over the book's plan has these steps.
abbrev pub AreTheRun : BookState → Type 0
AreTheRun book = (posts : List (List Post)) (events : List Event)
    → IsRunOver book posts events → events ≡ book.trace

-- Done where an outcome stands: its numbers are told, and the book's steps are the run. Not yet
-- where
-- none stands.
pub record TellsOutcome (status : ℕ) (before after : PctOutcome) (old new : BookState)
    : Type 0 where
  pub done : status ≡ 0 → (outcome : Outcome) × (old.outcome ≡ Some outcome)
      × (after ≡ outcome_numbers outcome) × AreTheRun old
  pub not_yet : status ≡ 3 → old.outcome ≡ None
  pub statuses : (status ≡ 0) ⊎ (status ≡ 3)
  pub unwritten : status ≢ 0 → after ≡ before
  pub stays : new ≡ old
