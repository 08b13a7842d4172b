use Rattle.std.proofs.Common.{sym, ◌∙◌}
use Rattle.turn_lock.proofs.Sweeps.{all-ended, is-found, is-passed}
use Rattle.turn_lock.proofs.slot.Slot.sweep.Goals as goal

pub returns-then-settles-clause-swept : goal.returns-then-settles-clause-swept
returns-then-settles-clause-swept g c =
    is-found _ _ _ _ _ c.candidate-thread.ensures c.work-work.ensures.work
    (sym c.settles.ensures ∙ c.if-settles.true)

pub returns-then-all_ended-clause-swept : goal.returns-then-all_ended-clause-swept
returns-then-all_ended-clause-swept g c =
    let e = c.ended.ensures in
    all-ended _ _ _ _ _ _ _ c.requires.lowest.0 c.requires.lowest.1 c.requires.posted
    c.work-work.ensures.work (sym c.settles.ensures ∙ c.if-settles.false)
    (c.all_ended.ensures c.if-all_ended.true) e.brief e.owes e.wakes

pub returns-clause-swept : goal.returns-clause-swept
returns-clause-swept g c =
    is-passed _ _ _ _ _ c.work-work.ensures.work (sym c.settles.ensures ∙ c.if-settles.false)
    c.note.ensures.book c.note.ensures.notes
