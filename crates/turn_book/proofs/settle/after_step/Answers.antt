use Rattle.std.proofs.Common.{sym, ◌∙◌, inl, inr, arith}
use Rattle.policy_pick.proofs.laws.Turns.{choice-step}
use Rattle.turn_book.proofs.settle.after_step.Goals.{then-opened-eq0, else-opened-eq0}
use Rattle.turn_book.proofs.settle.after_step.Goals as goal

pub returns-then-outranks : goal.returns-then-outranks
returns-then-outranks g c = λ schedule later stands had.
    let was = had c.if-kept.true in
    sym (choice-step (g.P.Policy.plan c.args.policy.now) schedule c.args.thread c.args.opened
    was.earlier later was.speaks was.opens (elim c.if-opened-eq0.branch [
      | then-opened-eq0 w ↦ inl (omega (arith, w.if-opened-eq0.true))
      | else-opened-eq0 w ↦
          inr (w.outranks.ensures (sym w.value-is ∙ c.if-outranks.true) schedule stands)
    ]) was.turn was.away)
