use Rattle.std.proofs.Common.{sym, ap, ◌∙◌, subst}
use Rattle.turn_lock.specs.Rounds.{RoundTells}
use Rattle.turn_lock.specs.Views.{view}
use Rattle.turn_lock.specs.Hands.{Stays}
use Rattle.turn_lock.specs.declared.round.Round.{Round}
use Rattle.turn_lock.specs.declared.view.View.{View}
use Rattle.turn_lock.specs.declared.round.Round.TheVariants.{Found}
use Rattle.turn_lock.proofs.Waiting.{stays-self, stays-along, took-at-last, serves-back, tells-back}
use Rattle.turn_lock.proofs.held.TurnLock.turn_in_brief.Goals as goal

pub loop-init : goal.loop-init
loop-init g c = (c.wait_noted.ensures.of, stays-self (view c.wait_noted.new.seat))

pub loop-preserved-in-Busy : goal.loop-preserved-in-Busy
loop-preserved-in-Busy g c = (
  c.round.ensures.of,
  stays-along _ _ _ c.loop.invariant.1
      (subst (λ (x : Round). RoundTells (view c.loop.seat) x (view c.round.new.seat)) c.in-Busy.is
      c.round.ensures.round),
)

pub loop-preserved : goal.loop-preserved
loop-preserved g c =
    let seat = c.round.new.seat in
    let Tells : Round → Type 0 = λ x. RoundTells (view c.loop.seat) x (view seat) in
    let round = subst Tells c.in-Wait.is c.round.ensures.round in
    let stays = stays-along _ _ _ c.loop.invariant.1 round in
    let Stay : View → Type 0 = Stays (view c.wait_noted.new.seat) in
    (c.look_or_sleep.ensures.of, subst Stay (sym c.look_or_sleep.ensures.view) stays)

pub returns-in-Found-clause-serves : goal.returns-in-Found-clause-serves
returns-in-Found-clause-serves g c =
    let found = subst (λ (x : Round). RoundTells (view c.loop.seat) x (view c.round.new.seat))
    c.in-Found.is c.round.ensures.round in
    let Stay : View → Type 0 = λ v. Stays v (view c.loop.seat) in
    let stays = subst Stay c.wait_noted.ensures.view c.loop.invariant.1 in
    serves-back _ _ _ stays found.said.serves

pub returns-in-Found-clause-turn : goal.returns-in-Found-clause-turn
returns-in-Found-clause-turn g c =
    let found = subst (λ (x : Round). RoundTells (view c.loop.seat) x (view c.round.new.seat))
    c.in-Found.is c.round.ensures.round in
    let Stay : View → Type 0 = λ v. Stays v (view c.loop.seat) in
    let stays = subst Stay c.wait_noted.ensures.view c.loop.invariant.1 in
    record {
      turn = found.turn;
      brief = found.brief;
      said = (
        took-at-last _ _ _ _ _ _ (serves-back _ _ _ stays found.said.serves) stays found.said.took,
        tells-back _ _ c.in-Found.thread found.turn _ stays found.said.tells,
      );
    }

pub returns-in-Found-clause-kept : goal.returns-in-Found-clause-kept
returns-in-Found-clause-kept g c =
    λ over. c.round.ensures.kept c.in-Found.thread
    (c.in-Found.is ∙ ap (Found c.in-Found.thread) over)
