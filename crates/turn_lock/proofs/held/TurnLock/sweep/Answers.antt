use Rattle.std.proofs.Common.{◌≡◌, ℕ, List, ◌∷◌, get_or, sym, ap, ◌∙◌, subst}
use Rattle.atomic_table.specs.Table.{rest}
use Rattle.turn_lock.specs.Slots.{Slot}
use Rattle.turn_lock.specs.Hands.{IsSwept}
use Rattle.turn_lock.proofs.held.TurnLock.sweep.Goals as goal

pub slot_mut-slot-requires : goal.slot_mut-slot-requires
slot_mut-slot-requires g c = let hand = c.requires.ready.hand in
    let base : Slot = c.args.seat.now.me.0.base in (
      c.requires.of,
      (
        base,
        hand.one ∙ ap (λ (l : List (ℕ × Slot)). (0, base) ∷ rest l)
            (sym hand.one),
      ),
    )

pub returns-clause-swept : goal.returns-clause-swept
returns-clause-swept g c =
    let hand = c.requires.ready.hand in
    let base : Slot = c.args.seat.now.me.0.base in
    let is : c.slot_mut-slot.result.now ≡ base =
    ap (λ (l : List (ℕ × Slot)). (get_or l 0 (0, base)).1)
    (sym c.slot_mut-slot.ensures.value ∙ hand.one) in (
      c.sweep.new.self,
      record {
        live = hand.live;
        held = hand.held;
        one = ap (λ (l : List (ℕ × Slot)). (0, c.sweep.new.self) ∷ rest l) hand.one;
      },
      subst (λ (s : Slot). IsSwept c.args.threads.now s c.sweep.result c.sweep.new.self) is
          c.sweep.ensures.swept,
      c.sweep.ensures.kept,
    )
