-- Turns in brief, and the turns that they are of (this project).
use Rattle.std.specs.Prelude.{◌≡◌, Bool, true, false, Option, Some}
use Rattle.pct_ask.specs.declared.verdict.Outcome.{Outcome}
use Rattle.turn_book.specs.declared.taken.Reply.{Reply}
use Rattle.turn_book.specs.declared.taken.Reply.TheVariants as replies
use Rattle.turn_lock.specs.declared.brief.Brief.{Brief}
use Rattle.turn_lock.specs.declared.brief.Brief.TheVariants.{Answer, Ended, NotYet, Busy, Over}
use Rattle.turn_lock.specs.declared.turn.Turn.{Turn}
use Rattle.turn_lock.specs.declared.turn.Turn.TheVariants as turns

-- a turn without its outcome
abbrev pub brief : Turn → Brief
brief (turns.Answer answer) = Answer answer
brief turns.Ended = Ended
brief (turns.NotYet at because) = NotYet at because
brief (turns.Busy holder) = Busy holder
brief (turns.Over outcome) = Over

-- a turn of which this is said, in brief
pub record InBrief (Said : Turn → Type 0) (told : Brief) : Type 0 where
  pub turn : Turn
  pub brief : told ≡ brief turn
  pub said : Said turn

-- where the turn tells an outcome, it is this one
abbrev pub IsWith : Option Outcome → Turn → Type 0
IsWith last (turns.Over outcome) = last ≡ Some outcome
IsWith last turn = Unit {0}

abbrev pub as_brief : Reply → Brief
as_brief (replies.Answer answer) = Answer answer
as_brief (replies.NotYet at because) = NotYet at because
as_brief replies.Over = Over

-- an answer that ends a wait for the turn
abbrev pub settles : Brief → Bool
settles (Answer answer) = true
settles Over = true
settles told = false
