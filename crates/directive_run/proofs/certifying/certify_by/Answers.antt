-- The orders are all led to the verdict, or one decides.
use Rattle.std.proofs.Common.{◌*◌, ◌^◌, ◌≤◌, List, length, ap, subst, ◌∙◌}
use Rattle.std.proofs.Common.{arith}
use Rattle.pct_ask.specs.Bodies.{Pending}
use Rattle.script_code.specs.Listing.{listing}
use Rattle.script_body.proofs.laws.ScriptBodies.{code_bodies}
use Rattle.script_run.specs.Ready.{bodies_of_code}
use Rattle.script_run.proofs.Laws.{decided, undecided}
use Rattle.directive_run.specs.Certifying.{Certifies}
use Rattle.directive_run.specs.Tested.{DirectedSetup, HasRowsBefore}
use Rattle.directive_run.specs.declared.answers.Certified.TheVariants.{Yes}
use Rattle.directive_run.proofs.Certificates.{all-rows, certified}
use Rattle.directive_run.proofs.certifying.certify_by.Goals as goal

pub returns-in-Some : goal.returns-in-Some
returns-in-Some g c = λ script of.
    let code = listing c.args.code.now in
    let setup : DirectedSetup = record {
      deal = c.args.deal.now;
      bodies = bodies_of_code code;
      directive = c.args.directive.now;
      steps = c.args.steps;
      limit = c.args.limit;
    } in
    let B : List Pending → Type 0 = λ bodies. Certifies setup.deal bodies setup.directive
    setup.steps setup.limit c.in-Some.certified in
    subst B (code_bodies script code of.is_code)
    (decided (HasRowsBefore setup)
    (λ rows certified. Certifies setup.deal setup.bodies setup.directive setup.steps setup.limit
    certified) c.run_batches.new.kept c.order_count-total.result c.in_ok-certified.field-0
    c.in_ok-certified.ensures c.in-Some.certified c.in-Some.is)

pub returns : goal.returns
returns g c = λ script of.
    let deal = c.args.deal.now in
    let code = listing c.args.code.now in
    let directive = c.args.directive.now in
    let few : deal.threads ≤ 7 = omega (arith, c.if-threads-gt-MAX_CERTIFIED_THREADS.false) in
    let setup : DirectedSetup = record {
      deal = deal;
      bodies = bodies_of_code code;
      directive = directive;
      steps = c.args.steps;
      limit = c.args.limit;
    } in
    let made = c.run_batches.new.kept in
    let has = undecided (HasRowsBefore setup)
    (λ rows certified. Certifies setup.deal setup.bodies setup.directive setup.steps setup.limit
    certified) made c.order_count-total.result c.in_ok-certified.field-0 c.in_ok-certified.ensures
    c.in_default.is in
    let rows =
    all-rows deal (bodies_of_code code) directive c.args.steps c.args.limit made (length made)
    c.requires.low (omega (arith, c.order_count-total.ensures, has.long)) has.are in
    let B : List Pending → Type 0 = λ bodies. Certifies deal bodies directive c.args.steps
    c.args.limit (Yes c.bound_of-bound.result made) in
    subst B (code_bodies script code of.is_code)
    (certified deal (bodies_of_code code) directive c.args.steps c.args.limit c.requires.low
    made c.bound_of-bound.result
    (omega (arith, c.steps.ensures.number, c.steps.ensures.fits.0)) few rows
    (c.bound_of-bound.ensures ∙ ap (λ n. deal.threads * c.steps.result ^ n) c.len.ensures
    ∙ ap (λ s. deal.threads * s ^ length directive.events) c.steps.ensures.number))
