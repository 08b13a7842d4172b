use Rattle.std.proofs.Common.{◌≡◌, Err, refl, sym, ◌∙◌, subst}
use Rattle.pct_ask.specs.declared.verdict.Outcome.TheVariants.{Verdict as Ends}
use Rattle.body_kit.specs.declared.error.KitError.{KitError}
use Rattle.kit_main.specs.Showing.{test_names}
use Rattle.kit_main.proofs.Showable.{mapped-three, are-in-range, asked, no-wrong-order}
use Rattle.kit_main.proofs.Known.{known-run}
use Rattle.kit_main.proofs.show.run_test.Goals as goal

pub run_boxed-requires-clause-in_range : goal.run_boxed-requires-clause-in_range
run_boxed-requires-clause-in_range g c =
    λ κs p. are-in-range _ (mapped-three _ c.args.bodies.items c.requires.three) c.requires.bodies
    c.in_ok-deal.deal c.in_ok-deal.ensures

pub unreachable-requires : goal.unreachable-requires
unreachable-requires g c =
    let error = c.in-Err-WrongCount in
    let P : KitError → Type 0 = λ k. c.run_boxed.result ≡ Err k in
    let is = (c.run_boxed.ensures.wrong_count error.field-0-0 error.field-0-1).0
    (subst P error.field-0-is error.is) in
    is.wrong (record {
      bodies_fit = c.requires.three ∙ sym c.in_ok-deal.ensures.threads;
      order_fits = sym c.in_ok-deal.ensures.threads;
    })

pub unreachable-requires-in-Err-NotAnOrder : goal.unreachable-requires-in-Err-NotAnOrder
unreachable-requires-in-Err-NotAnOrder g c =
    let error = c.in-Err-NotAnOrder in
    let P : KitError → Type 0 = λ k. c.run_boxed.result ≡ Err k in
    let is = (c.run_boxed.ensures.not_an_order error.field-0-0).0
    (subst P error.field-0-is error.is) in
    no-wrong-order error.field-0-0 is.first

pub returns-in-Ok-clause-known : goal.returns-in-Ok-clause-known
returns-in-Ok-clause-known g c =
    let r = c.in-Ok.run' in
    known-run test_names 1 c.in_ok-deal.deal _
    (asked _ (mapped-three _ c.args.bodies.items c.requires.three) c.requires.bodies) _
    c.args.limit r.events r.verdict (Ends r.verdict) refl c.in-Ok.ensures.played
