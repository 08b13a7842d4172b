use Rattle.std.proofs.Common.{ℕ, sym, subst, arith}
use Rattle.turn_lock.specs.Rule.{Serves}
use Rattle.turn_lock.specs.Views.{view}
use Rattle.turn_lock.specs.declared.view.View.{View}
use Rattle.turn_lock.proofs.laws.SeatedThreads.{inside}
use Rattle.turn_lock.proofs.laws.Serving.{alone-has}
use Rattle.body_kit.proofs.kit.Kit.split.Goals as goal

pub returns-clause-own : goal.returns-clause-own
returns-clause-own c =
    let seat = c.args.seat.now in
    let v = view seat in
    let t : ℕ = c.args.thread in
    let there = inside seat t c.requires.serves in
    let few = v.seen.deal.few_threads in
    let Its : View → Type 0 = λ w. Serves w t in
    subst Its (sym c.split.ensures.right) (alone-has v t (omega arith))
