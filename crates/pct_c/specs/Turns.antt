-- What the calls on a book of turns answer, as numbers (this project).
use Rattle.std.specs.Prelude.{◌≡◌, ◌≢◌, ◌<◌, ◌↔◌, ◌⊎◌, ℕ, pos, Option, Some, None, IsSome}
use Rattle.pct_ask.specs.declared.ask.Ask.{Ask}
use Rattle.pct_ask.specs.declared.ask.Post.{Post}
use Rattle.pct_ask.specs.declared.event.Standing.{Standing}
use Rattle.pct_ask.specs.Objects.{sizes_of_deal, PostIsInRange}
use Rattle.policy_pick.specs.declared.chance.Pick.{Pick}
use Rattle.c_values.specs.declared.ask.PctAsk.{PctAsk}
use Rattle.c_values.specs.Asks.{ask_said}
use Rattle.turn_book.specs.Told.{BookState, choice_of, standing_of, IsPosted, IsAnswered}
use Rattle.turn_book.specs.Told.{IsLawful}
use Rattle.pct_c.specs.declared.turn.PctTurn.{PctTurn}

-- The choice is 1 where it is a thread's turn, 2 where that depends on a thread's next post, and 3
-- where the run is over.
pub record SaysChoice (book : BookState) (turn : PctTurn) : Type 0 where
  pub its_turn : (u : ℕ) → ((turn.choice ≡ 1) × (turn.thread ≡ u))
      ↔ ((book.outcome ≡ None) × (choice_of book ≡ Some (Pick.Thread u)))
  pub waits : (u : ℕ) → ((turn.choice ≡ 2) × (turn.thread ≡ u))
      ↔ ((book.outcome ≡ None) × (choice_of book ≡ Some (Pick.Waits u)))
  pub over : (turn.choice ≡ 3) ↔ IsSome book.outcome

-- A thread of the book isn't in the middle of a post, and the numbers say an ask of what there is,
-- or
-- that it has ended.
abbrev pub MayPost : BookState → ℕ → PctAsk → Option Ask → Type 0
MayPost book t numbers ask = (t < book.deal.threads) × (standing_of book t ≡ Standing.Away)
    × (ask_said numbers ≡ Some ask) × PostIsInRange (sizes_of_deal book.deal) ask

-- a thread of the book asks
abbrev pub MayTake : BookState → ℕ → Type 0
MayTake book t = (t < book.deal.threads) × (standing_of book t ≡ Standing.Asks)

-- it is the thread's turn, and the run isn't over
abbrev pub HasTurn : BookState → ℕ → Type 0
HasTurn book t = (book.outcome ≡ None) × (choice_of book ≡ Some (Pick.Thread t))

-- the post of an ask in a line
abbrev pub post_in : ℕ → Option Ask → Post
post_in line ask = record { ask = ask; line = line }

-- A thread posts. Done where it may, and the run isn't over; over where it is; else bad.
pub record Posts (t line : ℕ) (numbers : PctAsk) (turn : PctTurn) (old new : BookState)
    : Type 0 where
  pub done : turn.status ≡ 0 → (ask : Option Ask) × MayPost old t numbers ask
      × (old.outcome ≡ None) × IsPosted old t (post_in line ask) new
  pub over : turn.status ≡ 4 → IsSome old.outcome
  pub bad : turn.status ≡ 5 → (ask : Option Ask) → ¬ MayPost old t numbers ask
  pub statuses : (turn.status ≡ 0) ⊎ ((turn.status ≡ 4) ⊎ (turn.status ≡ 5))
  pub answer : turn.answer ≡ pos 0
  pub stays : turn.status ≢ 0 → new ≡ old
  pub choice : SaysChoice new turn
  pub lawful : IsLawful new

-- A thread takes its step. Done or ended where it is its turn, and ended where that ends the run;
-- not
-- yet where the turn is another's; over where the run was over; else bad.
pub record TakesTurn (t : ℕ) (turn : PctTurn) (old new : BookState) : Type 0 where
  pub done : turn.status ≡ 0
      → HasTurn old t × IsAnswered old t turn.answer new × (new.outcome ≡ None)
  pub ended : turn.status ≡ 1
      → HasTurn old t × IsAnswered old t turn.answer new × IsSome new.outcome
  pub not_yet : turn.status ≡ 3 → MayTake old t × (old.outcome ≡ None) × ¬ HasTurn old t
  pub over : turn.status ≡ 4 → IsSome old.outcome
  pub bad : turn.status ≡ 5 → ¬ MayTake old t
  pub statuses : (turn.status ≡ 0) ⊎ ((turn.status ≡ 1) ⊎ ((turn.status ≡ 3)
      ⊎ ((turn.status ≡ 4) ⊎ (turn.status ≡ 5))))
  pub stays : turn.status ≢ 0 → turn.status ≢ 1 → (turn.answer ≡ pos 0) × (new ≡ old)
  pub choice : SaysChoice new turn
  pub lawful : IsLawful new

-- the thread has posted, and taken its step
pub record PostsAndTakes (t line : ℕ) (numbers : PctAsk) (turn : PctTurn) (old new : BookState)
    : Type 0 where
  pub ask : Option Ask
  pub may : MayPost old t numbers ask
  pub running : old.outcome ≡ None
  pub between : BookState
  pub posted : IsPosted old t (post_in line ask) between
  pub its_turn : HasTurn between t
  pub taken : IsAnswered between t turn.answer new

-- A thread posts, and takes its step where it is its turn then: done or ended. Posted where it
-- isn't.
pub record PostsAndSteps (t line : ℕ) (numbers : PctAsk) (turn : PctTurn) (old new : BookState)
    : Type 0 where
  pub done : turn.status ≡ 0
      → PostsAndTakes t line numbers turn old new × (new.outcome ≡ None)
  pub ended : turn.status ≡ 1
      → PostsAndTakes t line numbers turn old new × IsSome new.outcome
  pub posted : turn.status ≡ 2 → (ask : Option Ask) × MayPost old t numbers ask
      × (old.outcome ≡ None) × IsPosted old t (post_in line ask) new
      × ¬ (HasTurn new t × MayTake new t)
  pub over : turn.status ≡ 4 → IsSome old.outcome
  pub bad : turn.status ≡ 5 → (ask : Option Ask) → ¬ MayPost old t numbers ask
  pub statuses : (turn.status ≡ 0) ⊎ ((turn.status ≡ 1) ⊎ ((turn.status ≡ 2)
      ⊎ ((turn.status ≡ 4) ⊎ (turn.status ≡ 5))))
  pub answer : turn.status ≢ 0 → turn.status ≢ 1 → turn.answer ≡ pos 0
  pub stays : turn.status ≢ 0 → turn.status ≢ 1 → turn.status ≢ 2 → new ≡ old
  pub choice : SaysChoice new turn
  pub lawful : IsLawful new

-- Whose turn it is is told, and nothing changes.
pub record TellsTurn (turn : PctTurn) (old new : BookState) : Type 0 where
  pub done : turn.status ≡ 0
  pub stays : new ≡ old
  pub choice : SaysChoice new turn
