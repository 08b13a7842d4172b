-- The answers to a thread that asks for its turn.
use Rattle.std.specs.Prelude.{◌≡◌, ◌≢◌, ℕ, ◌==◌, if◌then◌else◌, Option, Some, None}
use Rattle.policy_pick.specs.declared.chance.Pick.{Pick}
use Rattle.policy_pick.specs.declared.chance.Pick.TheVariants.{Thread, Waits, Nobody, Departs}
use Rattle.turn_book.specs.Told.{BookState, choice_of}
use Rattle.turn_book.specs.declared.taken.Because.{Because}
use Rattle.turn_book.specs.declared.taken.Because.TheVariants.{Turn, Away}
use Rattle.turn_book.specs.declared.taken.Taken.{Taken}
use Rattle.turn_book.specs.declared.taken.Taken.TheVariants.{Answer, NotYet, Over}

-- the thread took its step
abbrev pub IsAnswerTaken : Taken → Type 0
IsAnswerTaken (Answer answer) = Unit {0}
IsAnswerTaken (NotYet at because) = ⊥
IsAnswerTaken (Over outcome) = ⊥

-- a choice after which a run goes on
abbrev pub MayWait : Pick → Type 0
MayWait (Thread u) = Unit {0}
MayWait (Waits u) = Unit {0}
MayWait Nobody = ⊥
MayWait (Departs u) = ⊥

-- why the thread t doesn't have its turn by a choice
abbrev pub because_of : Pick → ℕ → Option Because
because_of (Thread u) t = if u == t then None else Some (Turn u)
because_of (Waits u) t = Some (Away u)
because_of Nobody t = None
because_of (Departs u) t = None

-- whose turn it is, or whom that depends on
abbrev pub IsBecause : BookState → ℕ → Because → Type 0
IsBecause book t (Turn u) = (choice_of book ≡ Some (Thread u)) × (u ≢ t)
IsBecause book t (Away u) = choice_of book ≡ Some (Waits u)
