-- What one round of a call that waits leaves with its seat (this project).
use Rattle.std.specs.Prelude.{ℕ, None}
use Rattle.turn_lock.specs.Rule.{Serves}
use Rattle.turn_lock.specs.Turns.{TookOnce, TellsEnd}
use Rattle.turn_lock.specs.Hands.{Stays}
use Rattle.turn_lock.specs.Briefs.{InBrief}
use Rattle.turn_lock.specs.declared.round.Round.{Round}
use Rattle.turn_lock.specs.declared.round.Round.TheVariants.{Busy, Found, Wait}
use Rattle.turn_lock.specs.declared.turn.Turn.{Turn}
use Rattle.turn_lock.specs.declared.view.View.{View}

-- a thread of the seat is answered
pub record IsAnsweredRound (v : View) (t : ℕ) (turn : Turn) (w : View) : Type 0 where
  pub serves : Serves v t
  pub took : TookOnce v t None turn w
  pub tells : TellsEnd v.serves t turn w.seen

abbrev pub RoundTells : View → Round → View → Type 0
RoundTells v Busy w = Stays v w
RoundTells v (Found t told) w = InBrief (λ turn. IsAnsweredRound v t turn w) told
RoundTells v (Wait word) w = Stays v w
