-- The directed run is too long, has another verdict, or is the run of its moments' points.
use Rattle.std.proofs.Common.{◌≡◌, ◌≢◌, true, false, refl, ap, ◌∙◌, arith}
use Rattle.turn_book.specs.Posts.{schedule_of}
use Rattle.choices.specs.Points.{points_of}
use Rattle.directive_run.specs.Tested.{directed_setup, run_of_order}
use Rattle.directive_run.proofs.Exposure.{too-long}
use Rattle.directive_run.proofs.Certificates.{pointed, other}
use Rattle.directive_run.proofs.OrderRuns.{ended-run}
use Rattle.directive_run.proofs.judging.test_run.Goals as goal

pub verdict_of-verdict-requires : goal.verdict_of-verdict-requires
verdict_of-verdict-requires c = let run = (c.requires.run.1).run in (run.verdict, run.ends)

pub returns-then-many-most : goal.returns-then-many-most
returns-then-many-most c = λ order is.
    let setup = directed_setup c.args.claim.now in
    let all = setup.directive.events in
    let made = c.args.events.now in
    let verdict = c.verdict_of-verdict.result in
    let ran =
    ended-run (run_of_order setup order) made c.args.outcome.now verdict is.run
    c.verdict_of-verdict.ensures in
    too-long setup.deal setup.bodies order all all setup.steps setup.limit c.count_steps-many.result
    made verdict refl ran c.count_steps-many.ensures
    (omega (arith, c.if-many-most.true, c.steps-most.ensures.number))

pub returns-then-not-is : goal.returns-then-not-is
returns-then-not-is c = λ order is.
    let setup = directed_setup c.args.claim.now in
    let all = setup.directive.events in
    let made = c.args.events.now in
    let verdict = c.verdict_of-verdict.result in
    let ran =
    ended-run (run_of_order setup order) made c.args.outcome.now verdict is.run
    c.verdict_of-verdict.ensures in
    let apart : verdict ≢ setup.directive.verdict = λ same.
    let yes : c.is.result ≡ true = c.is.ensures.1 same in
    let no : c.is.result ≡ false = c.if-not-is.true in
    cc in
    other setup.deal setup.bodies order all all setup.directive.verdict verdict setup.steps
    setup.limit made refl ran apart
    (omega (arith, c.count_steps-many.ensures, c.if-many-most.false, c.steps-most.ensures.number))

pub returns : goal.returns
returns c = λ order is.
    let setup = directed_setup c.args.claim.now in
    let all = setup.directive.events in
    let made = c.args.events.now in
    let verdict = c.verdict_of-verdict.result in
    let moments = c.as_slice-moments.result.now in
    let ran =
    ended-run (run_of_order setup order) made c.args.outcome.now verdict is.run
    c.verdict_of-verdict.ensures in
    pointed setup.deal setup.bodies order all all setup.directive.verdict verdict setup.steps
    setup.limit made c.in_ok-points_of.field-0 refl ran (c.is.ensures.0 c.if-not-is.false)
    (omega (arith, c.count_steps-many.ensures, c.if-many-most.false, c.steps-most.ensures.number))
    (c.in_ok-points_of.ensures
    ∙ ap (λ s. points_of (schedule_of made) s moments) c.steps-most.ensures.number
    ∙ ap (points_of (schedule_of made) setup.steps) c.as_slice-moments.ensures)
