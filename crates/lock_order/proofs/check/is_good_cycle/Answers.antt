use Rattle.std.proofs.Common.{◌≡◌, ℕ, length, ◌-◌, arith, refl, sym, subst}
use Rattle.std.proofs.lemmas.Option.{slice_get_within}
use Rattle.lock_order.proofs.Places.{not-true}
use Rattle.lock_order.proofs.Cycles.{CycleSoFar, broken-join, broken-nesting, whole-cycle}
use Rattle.lock_order.proofs.check.is_good_cycle.Goals as goal
use Rattle.lock_order.proofs.check.is_good_cycle.Goals.{then-nesting-taken-via-then-nesting-taken}
use Rattle.lock_order.proofs.check.is_good_cycle.Goals.{then-nesting-taken-via-else-nesting-taken+then-not-is_nesting}

pub returns-then-nesting-taken : goal.returns-then-nesting-taken
returns-then-nesting-taken c =
    let events = c.args.events.now in
    let cycle = c.args.cycle.now in
    let place = c.loop-nesting.nesting-index in (
      λ yes. absurd (not-true yes),
      λ good. elim c.then-nesting-taken.branch [
        | then-nesting-taken-via-then-nesting-taken w ↦
            absurd (broken-join events cycle place c.loop-nesting.taken c.loop-nesting-test.true
            c.loop-nesting.invariant w.if-nesting-taken.true good)
        | then-nesting-taken-via-else-nesting-taken+then-not-is_nesting w ↦
            absurd (broken-nesting events cycle place c.loop-nesting-test.true
            (λ is. not-true (w.if-not-is_nesting.ensures.1 is)) good)
      ],
    )

pub returns : goal.returns
returns c =
    let cycle = c.args.cycle.now in
    let some = slice_get_within cycle (length cycle - 1) c.in-Some.last.now
    (sym c.in-Some.ensures.value) in
    let done : c.loop-nesting.nesting-index ≡ length cycle = omega arith in
    let P : ℕ → Type 0 = λ n. CycleSoFar c.args.events.now cycle n c.loop-nesting.taken in (
      λ yes. whole-cycle c.args.events.now cycle c.loop-nesting.taken (omega arith)
          (subst P done c.loop-nesting.invariant),
      λ good. refl,
    )
