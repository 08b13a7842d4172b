use Rattle.std.proofs.Common.{subst}
use Rattle.turn_lock.specs.Slots.{Slot}
use Rattle.turn_lock.specs.Turns.{TurnsTo}
use Rattle.turn_lock.proofs.slot.Slot.turn.Goals as goal

pub returns-clause-turn : goal.returns-clause-turn
returns-clause-turn g c =
    let told = c.post_and_turn.ensures in
    record {
      turn = told.turn;
      brief = told.brief;
      said = subst (λ (s : Slot).
          TurnsTo s.book c.args.thread c.args.post told.turn c.post_and_turn.new.book)
          c.self.view_is told.said;
    }
