-- Each thread is looked at once, but the step's own.
use Rattle.std.proofs.Common.{◌≡◌, ◌+◌, subst, sym, ap, ◌∙◌, arith}
use Rattle.hb_race.specs.Lasts.{IsLatest, later}
use Rattle.hb_race.proofs.Greatest.{latest-next, latest-own}
use Rattle.hb_race.proofs.history.latest_untold.Goals as goal
use Rattle.hb_race.proofs.history.latest_untold.Goals.{then-u-thread, else-u-thread}

pub loop-u-preserved : goal.loop-u-preserved
loop-u-preserved c =
    let Next = IsLatest c.args.lasts.now c.args.thread c.args.clock.now (c.loop-u.u + 1) in
    elim c.if-u-thread.branch [
      | then-u-thread w ↦
          subst Next (sym (w.latest-is ∙ w.later-latest.ensures
          ∙ ap (later c.loop-u.latest) w.untold_step.ensures))
          (latest-next c.args.lasts.now c.args.thread c.args.clock.now c.loop-u.u c.loop-u.latest
          w.if-u-thread.true c.loop-u.invariant)
      | else-u-thread w ↦
          subst Next (sym w.latest-is)
          (latest-own c.args.lasts.now c.args.thread c.args.clock.now c.loop-u.u c.loop-u.latest
          w.if-u-thread.false c.loop-u.invariant)
    ]

pub returns : goal.returns
returns c =
    let at : c.loop-u.u ≡ 64 = (let a = c.loop-u-test.false in let b = c.loop-u.auto.u-end in
    omega arith) in
    subst (λ k. IsLatest c.args.lasts.now c.args.thread c.args.clock.now k c.loop-u.latest) at
    c.loop-u.invariant
