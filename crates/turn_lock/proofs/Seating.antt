-- What the flags of a seat tell.
use Rattle.std.proofs.Common.{ℕ, List, Bool, sym, subst}
use Rattle.policy_pick.specs.declared.policy.Policy.{Ghosts}
use Rattle.turn_lock.specs.Rule.{HasFlag, Serves}
use Rattle.turn_lock.specs.Views.{view}
use Rattle.turn_lock.specs.declared.seat.Seat.{Seat}

module _ {P : Type 0} {policy : Ghosts P} (seat : Seat P policy) (t : ℕ) where
  pub to-flag : Serves (view seat) t → HasFlag seat.serves t
  to-flag h = subst (λ (l : List Bool). HasFlag l t) (sym seat.served) h

  pub from-flag : HasFlag seat.serves t → Serves (view seat) t
  from-flag h = subst (λ (l : List Bool). HasFlag l t) seat.served h
