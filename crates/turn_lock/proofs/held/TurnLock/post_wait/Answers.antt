use Rattle.std.proofs.Common.{sym, ◌∙◌, subst, Some}
use Rattle.turn_lock.specs.Turns.{TookAtLast}
use Rattle.turn_lock.specs.Views.{view}
use Rattle.turn_lock.specs.declared.turn.Turn.{Turn}
use Rattle.turn_lock.proofs.Briefly.{with-took}
use Rattle.turn_lock.proofs.held.TurnLock.post_wait.Goals as goal

pub turn_of-requires : goal.turn_of-requires
turn_of-requires g c =
    let e = c.post_in_brief-told.ensures in
    record {
      turn = e.turn.turn;
      brief = e.turn.brief;
      said = with-took _ _ _ e.turn.turn _ _ e.turn.said.took
          (λ over. e.kept (e.turn.brief ∙ over));
    }

pub returns-clause-turn : goal.returns-clause-turn
returns-clause-turn g c =
    let e = c.post_in_brief-told.ensures in
    let told = with-took _ _ _ e.turn.turn _ _ e.turn.said.took
    (λ over. e.kept (e.turn.brief ∙ over)) in
    subst (λ (turn : Turn). TookAtLast (view c.args.seat.now) c.args.thread (Some c.args.post) turn
    (view c.post_in_brief-told.new.seat))
    (sym (c.turn_of.ensures e.turn.turn told e.turn.brief)) e.turn.said
