-- The seats of a program's threads (this project).
use Rattle.std.specs.Prelude.{◌≡◌, ℕ, true}
use Rattle.turn_lock.specs.Seen.{owes_of}
use Rattle.turn_lock.specs.Rule.{Serves}
use Rattle.turn_lock.specs.declared.view.View.{View}

-- the seat serves the thread, which has not posted yet
pub record HasYetToPost (v : View) (t : ℕ) : Type 0 where
  pub serves : Serves v t
  pub owes : owes_of v.seen t ≡ true
