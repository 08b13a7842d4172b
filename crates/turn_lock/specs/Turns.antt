-- What a call makes of the book that it took, and what it leaves with its seat (this project).
use Rattle.std.specs.Prelude.{◌≡◌, ◌≢◌, ◌<◌, ◌≤◌, ◌+◌, ℕ, Bool, true, false, List, [], ◌∷◌, ◌++◌}
use Rattle.std.specs.Prelude.{length, Option, Some, None, option_to_list, IsSome}
use Rattle.pct_ask.specs.declared.ask.Post.{Post}
use Rattle.pct_ask.specs.declared.event.Event.{Event}
use Rattle.pct_ask.specs.declared.event.Standing.TheVariants as standings
use Rattle.pct_ask.specs.Objects.{sizes_of_deal, PostIsInRange}
use Rattle.policy_pick.specs.declared.chance.Pick.TheVariants as picks
use Rattle.turn_book.specs.Told.{BookState, standing_of, choice_of, IsPosted}
use Rattle.turn_book.specs.Told.{IsAnswered}
use Rattle.turn_book.specs.Told.{IsLawful, Within}
use Rattle.turn_book.specs.Answers.{IsBecause}
use Rattle.turn_lock.specs.Seen.{Begins, SameOf, pairs_of, posts_seen, owes_of}
use Rattle.turn_lock.specs.Rule.{HasFlag, Serves}
use Rattle.turn_lock.specs.Plays.{turned_away}
use Rattle.turn_lock.specs.declared.view.View.{View}
use Rattle.turn_lock.specs.declared.turn.Turn.{Turn}
use Rattle.turn_lock.specs.declared.turn.Turn.TheVariants.{Answer, Ended, NotYet, Busy, Over}

-- the book after the post that a call was given, if any; a post after an outcome changes nothing
abbrev pub IsAsked : BookState → ℕ → Option Post → BookState → Type 0
IsAsked book t None asked = asked ≡ book
IsAsked book t (Some post) asked =
    (book.outcome ≡ None → IsPosted book t post asked) × (IsSome book.outcome → asked ≡ book)

-- the ids of a post that is given are in range
abbrev pub GivenInRange : BookState → Option Post → Type 0
GivenInRange book None = Unit {0}
GivenInRange book (Some post) = PostIsInRange (sizes_of_deal book.deal) post.ask

-- a post is given exactly where one is owed
abbrev pub IsOwed : BookState → ℕ → Option Post → Type 0
IsOwed seen t None = owes_of seen t ≡ false
IsOwed seen t (Some post) = owes_of seen t ≡ true

-- each answer to a thread, by the book after the post; `after` is the book that is given back
abbrev pub Row : BookState → ℕ → Turn → BookState → Type 0
Row book t (Answer answer) after =
    (book.outcome ≡ None)
    × (choice_of book ≡ Some (picks.Thread t))
    × IsAnswered book t answer after
Row book t Ended after =
    (book.outcome ≡ None) × (standing_of book t ≡ standings.Ended) × (after ≡ book)
Row book t (NotYet at because) after =
    (book.outcome ≡ None)
    × (standing_of book t ≡ standings.Asks)
    × (at ≡ length book.trace)
    × IsBecause book t because
    × (after ≡ book)
Row book t (Over outcome) after = (book.outcome ≡ Some outcome) × (after ≡ book)
Row book t (Busy holder) after = ⊥

-- what a call made of the book that it took
pub record TurnsTo (book : BookState) (t : ℕ) (post : Option Post) (answer : Turn)
    (after : BookState)
    : Type 0 where
  pub asked : BookState
  pub posted : IsAsked book t post asked
  pub row : Row asked t answer after
  pub lawful : IsLawful after

-- the thread's pairs: by an answer it gained one, which is the last step
abbrev pub GainsPair : BookState → ℕ → Turn → BookState → Type 0
GainsPair seen t (Answer answer) after =
    (event : Event)
    × (event.answer ≡ answer)
    × (pairs_of after t ≡ pairs_of seen t ++ event ∷ [])
    × ((before : List Event) × (after.trace ≡ before ++ event ∷ []))
GainsPair seen t answer after = pairs_of after t ≡ pairs_of seen t

-- What a call that took the book leaves with its seat. `book` is the book as the call took it last.
pub record TookTurn (v : View) (t : ℕ) (post : Option Post) (answer : Turn) (w : View)
    : Type 0 where
  pub book : BookState
  pub within : Within v.seen book
  pub own : (u : ℕ) → Serves v u → SameOf u v.seen book
  pub turn : TurnsTo book t post answer w.seen
  pub grown : Within v.seen w.seen
  pub pairs : GainsPair v.seen t answer w.seen
  -- the post is taken, but where an outcome stood before it
  pub posts : book.outcome ≡ None → posts_seen w.seen t ≡ posts_seen v.seen t ++ option_to_list post
  pub late : IsSome book.outcome → posts_seen w.seen t ≡ posts_seen v.seen t
  pub others : (u : ℕ) → Serves v u → u ≢ t → SameOf u v.seen w.seen
  pub serves : w.serves ≡ v.serves

-- an exchange failed, and nothing else happened
pub record IsBusy (v : View) (holder : ℕ) (w : View) : Type 0 where
  pub after : w ≡ turned_away v holder
  pub other : ¬ Serves v holder
  pub thread : holder < v.seen.deal.threads

-- a call with one exchange
pub record TookOnce (v : View) (t : ℕ) (post : Option Post) (answer : Turn) (w : View)
    : Type 0 where
  pub took : TookTurn v t post answer w
  pub takes : w.takes ≡ v.takes + 1
  pub turned : w.turned ≡ v.turned

-- what a call with one exchange leaves with its seat: where the answer is Busy, the exchange
-- failed, and else the call took the book
abbrev pub GivesOnce : View → ℕ → Option Post → Turn → View → Type 0
GivesOnce v t post (Busy holder) w = IsBusy v holder w
GivesOnce v t post answer w = TookOnce v t post answer w

-- a call that may have made several, of which the last took the book
pub record TookAtLast (v : View) (t : ℕ) (post : Option Post) (answer : Turn) (w : View)
    : Type 0 where
  pub took : TookTurn v t post answer w
  pub takes : v.takes < w.takes
  pub turned : Begins v.turned w.turned

-- Ended comes for the lowest thread of the seat, where each of them has ended. There is no other
-- way not to have a turn.
abbrev pub TellsEnd : List Bool → ℕ → Turn → BookState → Type 0
TellsEnd serves t Ended book =
    ((u : ℕ) → HasFlag serves u → standing_of book u ≡ standings.Ended)
    × ((u : ℕ) → HasFlag serves u → t ≤ u)
TellsEnd serves t (NotYet at because) book = ⊥
TellsEnd serves t answer book = Unit {0}
