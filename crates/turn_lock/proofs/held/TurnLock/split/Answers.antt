use Rattle.std.proofs.Common.{◌<◌, ℕ, sym, ap, ◌∙◌, subst}
use Rattle.turn_lock.specs.Seen.{owes_of}
use Rattle.turn_lock.specs.Plays.{SeatWithSlots}
use Rattle.turn_lock.proofs.Joining.{threads-alone, owed-alone}
use Rattle.turn_lock.proofs.laws.SeatedThreads.{inside}
use Rattle.turn_lock.proofs.Seating.{to-flag}
use Rattle.turn_lock.proofs.held.TurnLock.split.Goals as goal

pub invariant_of-result : goal.invariant_of-result
invariant_of-result g c =
    let old = c.args.seat.now in
    let t : ℕ = c.args.thread in
    let v = old.seat.me.0 in
    let right = c.split_as-other.ensures.right in
    record {
      flags = old.flags;
      live = ap (λ (x : SeatWithSlots). x.0.live) right;
      idle = ap (λ (x : SeatWithSlots). x.0.held) right;
      none = ap (λ (x : SeatWithSlots). x.1) right;
      served = sym (ap (λ (x : SeatWithSlots). x.0.serves) right);
      threads =
          λ u h. subst (λ (x : SeatWithSlots). u < x.0.seen.deal.threads) (sym right)
          (threads-alone v t v.seen.deal.threads (inside old t c.requires.serves) u h);
      owed =
          λ u h. owed-alone v t old.owes v.seen (old.owed t (to-flag old t c.requires.serves)) u h
          ∙ ap (λ (x : SeatWithSlots). owes_of x.0.seen u) (sym right);
    }
