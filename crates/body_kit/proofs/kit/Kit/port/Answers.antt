use Rattle.std.proofs.Common.{ℕ, ◌<◌, None, sym, ap, ◌∙◌, subst, arith}
use Rattle.turn_lock.specs.Rule.{Serves}
use Rattle.turn_lock.specs.Views.{view}
use Rattle.turn_lock.specs.declared.view.View.{View}
use Rattle.turn_lock.proofs.laws.SeatedThreads.{inside}
use Rattle.turn_lock.proofs.laws.Serving.{alone-has}
use Rattle.body_kit.specs.Ports.{IsPortSeat}
use Rattle.body_kit.proofs.Ports.{split-off}
use Rattle.body_kit.proofs.kit.Kit.port.Goals as goal

pub new-requires-clause-port : goal.new-requires-clause-port
new-requires-clause-port c =
    let seat = c.args.seat.now in
    let v = view seat in
    let t : ℕ = c.args.thread in
    let there = inside seat t c.requires.serves in
    let few = v.seen.deal.few_threads in
    let below : t < 64 = omega arith in
    let P : View → Type 0 = λ w. IsPortSeat w t None in
    subst P (sym c.split-own.ensures.right) (split-off v t below c.requires.owes)

pub returns-clause-own : goal.returns-clause-own
returns-clause-own c =
    let seat = c.args.seat.now in
    let v = view seat in
    let t : ℕ = c.args.thread in
    let there = inside seat t c.requires.serves in
    let few = v.seen.deal.few_threads in
    let Its : View → Type 0 = λ w. Serves w t in
    subst Its (sym (ap view c.new.ensures ∙ c.split-own.ensures.right))
    (alone-has v t (omega arith))
