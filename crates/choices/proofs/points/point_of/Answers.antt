-- A step is the thread's or another's, and it is the moment or not.
use Rattle.std.specs.Prelude.{pos}
use Rattle.std.proofs.Common.{◌≡◌, ◌+◌, suc, arith, eq-eqb, ne_eqb, ◌∙◌}
use Rattle.pct_ask.specs.declared.event.Event.{Event}
use Rattle.pct_ask.specs.declared.ask.Ask.TheVariants.{Yield}
use Rattle.choices.proofs.PointWalk.{other-own, other-point, same-own, same-point, here-point}
use Rattle.choices.proofs.PointWalk.{to-own, to-point}
use Rattle.choices.proofs.points.point_of.Goals as goal
use Rattle.choices.proofs.points.point_of.Goals.{then-event-moment+then-own-moment}
use Rattle.choices.proofs.points.point_of.Goals.{then-event-moment+else-own-moment}
use Rattle.choices.proofs.points.point_of.Goals.{else-event-moment}

pub loop-place-preserved : goal.loop-place-preserved
loop-place-preserved c =
    let events = c.args.events.now in
    let moment = c.args.moment in
    let steps = c.args.steps in
    let place = c.loop-place.place in
    let many = c.loop-place.own in
    let point = c.loop-place.point in
    let d : Event = record { thread = 0; line = 0; ask = Yield; answer = pos 0 } in
    let within = c.loop-place-test.true in
    let own = c.loop-place.invariant.own in
    let at = c.loop-place.invariant.point in
    let few = c.loop-place.invariant.few in
    let to_own = to-own events moment steps place d within many point own at in
    let to_point = to-point events moment steps place d within many point own at in
    elim c.if-event-moment.branch [
      | then-event-moment+then-own-moment w ↦
          let same = eq-eqb _ _ w.if-event-moment.true in
          record {
            own =
                w.own-is ∙ (same-own events moment steps place _ within many point own at same
                ∙ to_own);
            few = omega (arith, w.own-is, few);
            point =
                w.point-is ∙ ((let e : place + 1 ≡ suc place = omega arith in e)
                ∙ (here-point events moment steps place _ within many point own at same
                (eq-eqb _ _ w.if-own-moment.true) ∙ to_point));
          }
      | then-event-moment+else-own-moment w ↦
          let same = eq-eqb _ _ w.if-event-moment.true in
          record {
            own =
                w.own-is ∙ (same-own events moment steps place _ within many point own at same
                ∙ to_own);
            few = omega (arith, w.own-is, few);
            point =
                w.point-is ∙ (same-point events moment steps place _ within many point own at same
                (ne_eqb _ _ w.if-own-moment.false) ∙ to_point);
          }
      | else-event-moment w ↦
          let other = ne_eqb _ _ w.if-event-moment.false in
          record {
            own =
                w.own-is ∙ (other-own events moment steps place _ within many point own at other
                ∙ to_own);
            few = omega (arith, w.own-is, few);
            point =
                w.point-is ∙ (other-point events moment steps place _ within many point own at other
                ∙ to_point);
          }
    ]
