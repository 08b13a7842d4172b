use Rattle.std.proofs.Common.{sym, ap, ◌∙◌, subst, Some}
use Rattle.turn_lock.specs.Turns.{GivesOnce}
use Rattle.turn_lock.specs.Briefs.{brief}
use Rattle.turn_lock.specs.Views.{view}
use Rattle.turn_lock.specs.declared.turn.Turn.{Turn}
use Rattle.turn_lock.proofs.Briefly.{busy-turn}
use Rattle.turn_lock.proofs.Waiting.{stays-self, stays-along, busy-stays, took-once, took-at-last}
use Rattle.turn_lock.proofs.held.TurnLock.post_in_brief.Goals as goal

pub loop-init : goal.loop-init
loop-init g c = (c.requires.of, stays-self (view c.args.seat.now))

pub loop-preserved : goal.loop-preserved
loop-preserved g c =
    let gives = c.try_in_brief.ensures.gives in
    let is = busy-turn gives.turn _ (sym gives.brief ∙ c.in-Busy.is) in (
      c.try_in_brief.ensures.of,
      stays-along _ _ _ c.loop.invariant.1
          (busy-stays _ _ _ (subst (λ (x : Turn).
          GivesOnce (view c.loop.seat) c.args.thread (Some c.args.post) x
          (view c.try_in_brief.new.seat)) is gives.said)),
    )

pub returns-in_default : goal.returns-in_default
returns-in_default g c =
    let gives = c.try_in_brief.ensures.gives in
    record {
      of = c.try_in_brief.ensures.of;
      turn = record {
        turn = gives.turn;
        brief = gives.brief;
        said =
            took-at-last _ _ _ _ _ _ c.requires.serves c.loop.invariant.1
            (took-once _ _ _ _ _ (λ holder is.
            c.in_default.not-Busy holder (gives.brief ∙ ap brief is)) gives.said);
      };
      obeys = c.try_in_brief.ensures.obeys;
      kept = c.try_in_brief.ensures.kept;
    }
