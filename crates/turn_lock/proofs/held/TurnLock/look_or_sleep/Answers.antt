use Rattle.std.proofs.Common.{◌<◌, sym, ap, ◌∙◌, subst}
use Rattle.turn_lock.specs.Seen.{owes_of}
use Rattle.turn_lock.specs.Plays.{SeatWithSlots}
use Rattle.turn_lock.proofs.held.TurnLock.look_or_sleep.Goals as goal

pub invariant_of-seat : goal.invariant_of-seat
invariant_of-seat g c =
    let old = c.args.seat.now in
    let me = c.sleep.ensures.view in
    record {
      flags = old.flags;
      live = ap (λ (x : SeatWithSlots). x.0.live) me ∙ old.live;
      idle = ap (λ (x : SeatWithSlots). x.0.held) me ∙ old.idle;
      none = ap (λ (x : SeatWithSlots). x.1) me ∙ old.none;
      served = old.served ∙ sym (ap (λ (x : SeatWithSlots). x.0.serves) me);
      threads =
          λ t h. subst (λ (x : SeatWithSlots). t < x.0.seen.deal.threads) (sym me)
          (old.threads t h);
      owed = λ t h. old.owed t h ∙ sym (ap (λ (x : SeatWithSlots). owes_of x.0.seen t) me);
    }
