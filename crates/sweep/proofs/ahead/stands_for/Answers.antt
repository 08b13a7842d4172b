-- The rest of the place by the lists of an order is the place of its points.
use Rattle.std.proofs.Common.{◌≡◌, Some, ◌%◌, sym, subst}
use Rattle.std.specs.Prelude.{slice_get}
use Rattle.choices.specs.PointLists.{pointlists}
use Rattle.sweep.proofs.Places.{points-there}
use Rattle.sweep.proofs.ahead.stands_for.Goals as goal

pub returns : goal.returns
returns c = λ choice at.
    let sweep = c.args.sweep.now in
    let there = points-there sweep.script.deal.now.threads sweep.steps sweep.points c.args.place
    choice
    sweep.some_steps c.requires at in
    c.weight_at.ensures choice.points
    (subst (λ n. slice_get (pointlists sweep.steps sweep.points) (c.args.place % n)
    ≡ Some choice.points) (sym c.list_count-lists.ensures) there)
