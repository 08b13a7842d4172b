use Rattle.std.proofs.Common.{sym, ◌∙◌, subst, None}
use Rattle.turn_lock.specs.Turns.{TookAtLast, TellsEnd}
use Rattle.turn_lock.specs.Views.{view}
use Rattle.turn_lock.specs.declared.turn.Turn.{Turn}
use Rattle.turn_lock.proofs.Briefly.{with-took}
use Rattle.turn_lock.proofs.held.TurnLock.turn_any.Goals as goal

pub turn_of-requires : goal.turn_of-requires
turn_of-requires g c =
    let e = c.turn_in_brief-thread.ensures in
    record {
      turn = e.turn.turn;
      brief = e.turn.brief;
      said = with-took _ _ _ e.turn.turn _ _ e.turn.said.0.took
          (λ over. e.kept (e.turn.brief ∙ over));
    }

pub returns-clause-turn : goal.returns-clause-turn
returns-clause-turn g c =
    let e = c.turn_in_brief-thread.ensures in
    let told = with-took _ _ _ e.turn.turn _ _ e.turn.said.0.took
    (λ over. e.kept (e.turn.brief ∙ over)) in
    subst (λ (turn : Turn). TookAtLast (view c.args.seat.now) c.turn_in_brief-thread.result.0 None
    turn (view c.turn_in_brief-thread.new.seat))
    (sym (c.turn_of.ensures e.turn.turn told e.turn.brief)) e.turn.said.0

pub returns-clause-tells : goal.returns-clause-tells
returns-clause-tells g c =
    let e = c.turn_in_brief-thread.ensures in
    let told = with-took _ _ _ e.turn.turn _ _ e.turn.said.0.took
    (λ over. e.kept (e.turn.brief ∙ over)) in
    subst (λ (turn : Turn). TellsEnd (view c.args.seat.now).serves c.turn_in_brief-thread.result.0
    turn (view c.turn_in_brief-thread.new.seat).seen)
    (sym (c.turn_of.ensures e.turn.turn told e.turn.brief)) e.turn.said.1
