use Rattle.std.proofs.Common.{sym, subst}
use Rattle.pct_ask.specs.Bodies.{Pending}
use Rattle.kit_main.specs.Showing.{IsShowableBody}
use Rattle.kit_main.proofs.Showable.{boxed-showable, sample-showable}
use Rattle.kit_main.proofs.show_samples.Goals as goal

pub show-requires-clause-bodies : goal.show-requires-clause-bodies
show-requires-clause-bodies g c = λ κs p.
    let S : Pending → Type 0 = IsShowableBody in
    boxed-showable _ _ c.args.one c.args.other c.args.last c.in-Ok.ensures
    (subst S (sym c.requires.one) (sample-showable 0))
    (subst S (sym c.requires.other) (sample-showable 1))
    (subst S (sym c.requires.last) (sample-showable 2))
