use Rattle.std.proofs.Common.{rules, ◌≡◌, ◌<◌, ℕ, List, Bool, [], sym, ap, ◌∙◌, subst, arith}
use Rattle.turn_lock.specs.Slots.{Slot}
use Rattle.turn_lock.specs.Seen.{SameOf, owes_of}
use Rattle.turn_lock.specs.Rule.{HasFlag}
use Rattle.turn_lock.specs.Plays.{SeatWithSlots}
use Rattle.turn_lock.specs.Seats.{flags_of_either, seen_together, joined_seat}
use Rattle.turn_lock.proofs.Cuts.{joins}
use Rattle.turn_lock.proofs.Joining.{threads-joined, owed-joined}
use Rattle.turn_lock.proofs.Seating.{from-flag}
use Rattle.turn_lock.proofs.held.TurnLock.join.Goals as goal

pub join_seat-requires : goal.join_seat-requires
join_seat-requires g c = (
  c.requires.of.0.0,
  c.requires.of.1.0,
  c.args.other.none,
  search rules,
  joins _ _ _ _ _ c.args.seat.now.live c.args.seat.now.idle c.args.other.live c.args.other.idle,
)

pub invariant_of-seat : goal.invariant_of-seat
invariant_of-seat g c =
    let old = c.args.seat.now in
    let other = c.args.other in
    let v = old.seat.me.0 in
    let w = other.seat.me.0 in
    let there : c.join_seat.new.seat.me ≡ (joined_seat v w, []) =
    c.join_seat.ensures.2 ∙ ap (λ (l : List (ℕ × Slot)). (joined_seat v w, l)) old.none in
    let e : c.look.new.seat.me ≡ (joined_seat v w, []) = c.look.ensures.looks.same ∙ there in
    let deal : w.seen.deal ≡ v.seen.deal = c.requires.of.1.1.deal ∙ sym c.requires.of.0.1.deal in
    let threads : (t : ℕ) → HasFlag (flags_of_either old.serves other.serves) t
    → t < v.seen.deal.threads = threads-joined old.serves other.serves v.seen w.seen deal
    old.threads other.threads in
    let bits : (t : ℕ) → HasFlag c.either-both.result t
    → HasFlag (flags_of_either old.serves other.serves) t =
    λ t h. subst (λ (l : List Bool). HasFlag l t) c.either-both.ensures h in
    let own : (t : ℕ) → HasFlag old.serves t → SameOf t v.seen (seen_together v.seen w.seen) =
    λ t h. subst (λ (x : SeatWithSlots). HasFlag x.0.left_had t → SameOf t x.0.left x.0.seen)
    there (c.look.ensures.looks.left_own t) (from-flag old t h) in
    let theirs : (t : ℕ) → HasFlag other.serves t → SameOf t w.seen (seen_together v.seen w.seen) =
    λ t h. subst (λ (x : SeatWithSlots). HasFlag x.0.right_had t → SameOf t x.0.right x.0.seen)
    there (c.look.ensures.looks.right_own t) (from-flag other t h) in
    record {
      flags = c.chosen-owing.ensures.flags;
      live = ap (λ (x : SeatWithSlots). x.0.live) e;
      idle = ap (λ (x : SeatWithSlots). x.0.held) e ∙ old.idle;
      none = ap (λ (x : SeatWithSlots). x.1) e;
      served =
          c.either-both.ensures ∙ (λ i. flags_of_either (old.served i) (other.served i))
          ∙ sym (ap (λ (x : SeatWithSlots). x.0.serves) e);
      threads =
          λ t h. subst (λ (x : SeatWithSlots). t < x.0.seen.deal.threads) (sym e)
          (threads t (bits t h));
      owed = λ t h.
          let few = v.seen.deal.few_threads in
          owed-joined old.serves other.serves old.owes other.owes c.chosen-owing.result v.seen
          w.seen (seen_together v.seen w.seen) c.chosen-owing.ensures.chosen old.owed other.owed
          own theirs t (omega (arith, threads t (bits t h), few)) (bits t h)
          ∙ ap (λ (x : SeatWithSlots). owes_of x.0.seen t) (sym e);
    }
