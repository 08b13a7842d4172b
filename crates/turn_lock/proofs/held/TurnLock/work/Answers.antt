use Rattle.std.proofs.Common.{◌≡◌, ℕ, List, ◌∷◌, get_or, sym, ap, ◌∙◌, subst}
use Rattle.atomic_table.specs.Table.{rest}
use Rattle.turn_lock.specs.Slots.{Slot}
use Rattle.turn_lock.specs.Hands.{IsWork}
use Rattle.turn_lock.proofs.held.TurnLock.work.Goals as goal

pub slot_mut-slot-requires : goal.slot_mut-slot-requires
slot_mut-slot-requires g c = let hand = c.requires.ready.hand in
    let base : Slot = c.args.seat.now.me.0.base in (
      c.requires.of,
      (
        base,
        hand.one ∙ ap (λ (l : List (ℕ × Slot)). (0, base) ∷ rest l)
            (sym hand.one),
      ),
    )

pub returns-clause-work : goal.returns-clause-work
returns-clause-work g c =
    let hand = c.requires.ready.hand in
    let base : Slot = c.args.seat.now.me.0.base in
    let is : c.slot_mut-slot.result.now ≡ base =
    ap (λ (l : List (ℕ × Slot)). (get_or l 0 (0, base)).1)
    (sym c.slot_mut-slot.ensures.value ∙ hand.one) in (
      c.work.new.self,
      record {
        live = hand.live;
        held = hand.held;
        one = ap (λ (l : List (ℕ × Slot)). (0, c.work.new.self) ∷ rest l) hand.one;
      },
      subst (λ (s : Slot). IsWork s c.args.thread c.args.post c.work.result c.work.new.self) is
          c.work.ensures.work,
      c.work.ensures.kept,
    )
