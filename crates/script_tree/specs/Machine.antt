-- What a thread posts after answers, over any kind of state that leads to moves and asks (this
-- project).
use Rattle.std.specs.Prelude.{ℕ, zero, suc, ℤ, List, [], ◌∷◌, Some, None, Result, Ok, Err}
use Rattle.pct_ask.specs.declared.ask.Ask.{Ask}
use Rattle.pct_ask.specs.declared.ask.Ask.TheVariants.{Fault}
use Rattle.pct_ask.specs.declared.ask.FaultKind.{FaultKind}
use Rattle.pct_ask.specs.declared.ask.FaultKind.TheVariants.{Spin}
use Rattle.pct_ask.specs.declared.ask.Post.{Post}

-- what a state leads to
pub data Act (S : Type 0) : Type 0 where
  -- a local move, or its fault
  Moves : (next : Result S FaultKind) → Act S
  -- an ask, and the state after each answer
  Asks : (ask : Ask) (after : ℤ → S) → Act S
  -- nothing: the thread has ended
  Ends : Act S

-- where a thread stands once it has made its local moves: its post, and the state after each answer
pub record Stand (S : Type 0) : Type 0 where
  pub post : Post
  pub after : ℤ → S

-- of a kind of state: what comes first in it, with its line, and the state of a thread that has
-- ended
module _ {S : Type 0} (head : S → ℕ × Act S) (ended : S) where
  abbrev pub asks : ℕ → Ask → (ℤ → S) → Stand S
  asks line ask after = record { post = record { ask = Some ask; line = line }; after = after }

  -- a fault of the thread's own, after whose answer it has ended
  abbrev pub faults : ℕ → FaultKind → Stand S
  faults line kind = asks line (Fault kind) (λ answer. ended)

  -- goes on after a move, or asks the fault that keeps it from being made
  abbrev pub by_move : ℕ → Result S FaultKind → (S → Stand S) → Stand S
  by_move line (Ok next) go = go next
  by_move line (Err kind) go = faults line kind

  abbrev pub by_act : ℕ → Act S → (Result S FaultKind → Stand S) → Stand S
  by_act line (Moves next) move = move next
  by_act line (Asks ask after) move = asks line ask after
  by_act line Ends move = record {
    post = record { ask = None; line = line };
    after = λ answer. ended;
  }

  -- A thread makes at most `limit` local moves: it spins where one more would come.
  abbrev pub stand : (limit : ℕ) → S → Stand S
  stand zero s = by_act (head s).0 (head s).1 (λ next. faults (head s).0 Spin)
  stand (suc limit) s =
      by_act (head s).0 (head s).1 (λ next. by_move (head s).0 next (λ t. stand limit t))

  -- the post of a thread in this state after these answers
  abbrev pub pending_from : (limit : ℕ) → S → List ℤ → Post
  pending_from limit s [] = (stand limit s).post
  pending_from limit s (answer ∷ answers) =
      pending_from limit ((stand limit s).after answer) answers
