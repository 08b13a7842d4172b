use Rattle.std.proofs.Common.{inl, inr}
use Rattle.turn_lock.specs.Views.{view}
use Rattle.turn_lock.proofs.laws.Serving.{joined-left, joined-right}
use Rattle.body_kit.proofs.kit.Kit.join.Goals as goal

pub returns-clause-serves : goal.returns-clause-serves
returns-clause-serves c = λ t either.
    let v = view c.args.seat.now in
    let w = view c.args.other in
    let both = view c.join.new.seat in
    elim either [
      | inl here ↦ joined-left v w both t c.join.ensures.view here
      | inr there ↦ joined-right v w both t c.join.ensures.view there
    ]
