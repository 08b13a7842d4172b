-- What a port is told, by what its seat has seen before and after (this project).
use Rattle.std.specs.Prelude.{◌≡◌, ◌<◌, ◌⊎◌, ℕ, ℤ, List, [], ◌∷◌, ◌++◌, Option, Some, None, IsSome}
use Rattle.std.specs.Prelude.{Result, Ok, Err}
use Rattle.pct_ask.specs.declared.ask.Ask.{Ask}
use Rattle.pct_ask.specs.declared.ask.Post.{Post}
use Rattle.pct_ask.specs.declared.event.Event.{Event}
use Rattle.pct_ask.specs.declared.verdict.Outcome.{Outcome}
use Rattle.turn_book.specs.Told.{BookState, IsLawful, Within}
use Rattle.turn_lock.specs.Seen.{SameOf, pairs_of, posts_seen}
use Rattle.turn_lock.specs.Rule.{Serves}
use Rattle.turn_lock.specs.declared.turn.Turn.{Turn}
use Rattle.turn_lock.specs.declared.turn.Turn.TheVariants as turns
use Rattle.turn_lock.specs.declared.view.View.{View}
use Rattle.body_kit.specs.declared.asked.Asked.{Asked}
use Rattle.body_kit.specs.declared.asked.Asked.TheVariants.{Answer, Over}
use Rattle.body_kit.specs.declared.asked.Over.{Over as End}

-- what a thread posts that asks something on a line
abbrev pub ask_post : Ask → ℕ → Post
ask_post ask line = record { ask = Some ask; line = line }

-- what a thread posts that has ended
abbrev pub end_post : ℕ → Post
end_post line = record { ask = None; line = line }

-- the step that a thread takes by its ask, with the answer to it
abbrev pub event_of_ask : ℕ → Ask → ℕ → ℤ → Event
event_of_ask t ask line answer = record { thread = t; line = line; ask = ask; answer = answer }

-- What the thread owed was posted, but where the run was over before. The book is as the call found
-- it.
pub record IsGivenPost (v : View) (t : ℕ) (post : Post) (w : View) : Type 0 where
  pub book : BookState
  pub within : Within v.seen book
  pub own : SameOf t v.seen book
  pub posts : book.outcome ≡ None → posts_seen w.seen t ≡ posts_seen v.seen t ++ post ∷ []
  pub late : IsSome book.outcome → w.seen ≡ book

-- The thread was answered: the last step of the run is its own, of the ask that it gave, and is the
-- one pair that it gained.
pub record IsAnsweredAsk (v : View) (t : ℕ) (ask : Ask) (line : ℕ) (answer : ℤ) (w : View)
    : Type 0 where
  pub pairs : pairs_of w.seen t ≡ pairs_of v.seen t ++ event_of_ask t ask line answer ∷ []
  pub last : (before : List Event) × (w.seen.trace ≡ before ++ event_of_ask t ask line answer ∷ [])
  pub posts : posts_seen w.seen t ≡ posts_seen v.seen t ++ ask_post ask line ∷ []
  pub takes : v.takes < w.takes

-- The thread was told how the run ended, and took no step.
pub record IsToldOver (v : View) (t : ℕ) (post : Post) (outcome : Outcome) (w : View) : Type 0 where
  pub stands : w.seen.outcome ≡ Some outcome
  pub pairs : pairs_of w.seen t ≡ pairs_of v.seen t
  pub given : IsGivenPost v t post w

-- What each answer to an ask says: the thread took the step that it asked for, and this is the
-- answer to it; or it was told how the run ended, and took none.
abbrev pub AskTells : View → ℕ → Ask → ℕ → Asked → View → Type 0
AskTells v t ask line (Answer answer) w = IsAnsweredAsk v t ask line answer w
AskTells v t ask line (Over outcome) w = IsToldOver v t (ask_post ask line) outcome w

-- What each answer to two asks on one line says. Where the run was over the second one may not have
-- come about.
abbrev pub PairTells : View → ℕ → Ask → Ask → ℕ → Asked → View → Type 0
PairTells v t first second line (Answer answer) w =
    (between : View) × (value : ℤ) × IsAnsweredAsk v t first line value between
    × IsAnsweredAsk between t second line answer w
PairTells v t first second line (Over outcome) w =
    IsToldOver v t (ask_post first line) outcome w
    ⊎ ((between : View) × (value : ℤ) × IsAnsweredAsk v t first line value between
    × IsToldOver between t (ask_post second line) outcome w)

-- the thread has posted its end, and took no step
pub record IsEnded (v : View) (t : ℕ) (line : ℕ) (w : View) : Type 0 where
  pub pairs : pairs_of w.seen t ≡ pairs_of v.seen t
  pub given : IsGivenPost v t (end_post line) w

-- the seat went on, and has seen a run that keeps its rules; an outcome that it has seen is what
-- became of that run
pub record SeatGoesOn (v w : View) : Type 0 where
  pub within : Within v.seen w.seen
  pub lawful : IsLawful w.seen
  pub serves : w.serves ≡ v.serves

-- the seat serves this thread alone
pub record ServesOnly (v : View) (t : ℕ) : Type 0 where
  pub serves : Serves v t
  pub alone : (u : ℕ) → Serves v u → u ≡ t

-- the same answer of the lock
abbrev pub as_turn : Asked → Turn
as_turn (Answer answer) = turns.Answer answer
as_turn (Over outcome) = turns.Over outcome

-- how the run ended, where that was told
abbrev pub over_of : Asked → Option Outcome
over_of (Answer answer) = None
over_of (Over outcome) = Some outcome

-- what was told, by what a call of a port gives
abbrev pub asked_of : Result ℤ End → Asked
asked_of (Ok answer) = Answer answer
asked_of (Err over) = Over over.outcome

-- and back
abbrev pub answer_in : Asked → Result ℤ End
answer_in (Answer answer) = Ok answer
answer_in (Over outcome) = Err (record { outcome = outcome })
