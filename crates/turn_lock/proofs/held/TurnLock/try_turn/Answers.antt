use Rattle.std.proofs.Common.{sym, ◌∙◌, subst}
use Rattle.turn_lock.specs.Turns.{GivesOnce}
use Rattle.turn_lock.specs.Views.{view}
use Rattle.turn_lock.specs.declared.turn.Turn.{Turn}
use Rattle.turn_lock.proofs.Briefly.{with-gives}
use Rattle.turn_lock.proofs.held.TurnLock.try_turn.Goals as goal

pub turn_of-requires : goal.turn_of-requires
turn_of-requires g c =
    let e = c.try_in_brief-told.ensures in
    record {
      turn = e.gives.turn;
      brief = e.gives.brief;
      said = with-gives _ _ _ e.gives.turn _ _ e.gives.said
          (λ over. e.kept (e.gives.brief ∙ over));
    }

pub returns-clause-gives : goal.returns-clause-gives
returns-clause-gives g c =
    let e = c.try_in_brief-told.ensures in
    let told = with-gives _ _ _ e.gives.turn _ _ e.gives.said
    (λ over. e.kept (e.gives.brief ∙ over)) in
    subst (λ (turn : Turn). GivesOnce (view c.args.seat.now) c.args.thread c.args.post turn
    (view c.try_in_brief-told.new.seat))
    (sym (c.turn_of.ensures e.gives.turn told e.gives.brief)) e.gives.said
