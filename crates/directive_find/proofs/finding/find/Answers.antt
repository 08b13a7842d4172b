-- The run's moments lead to the run, so what they reduce to is what is found.
use Rattle.std.proofs.Common.{ℕ, List, length, arith, ap, sym, subst, ◌∙◌}
use Rattle.turn_book.specs.Posts.{schedule_of}
use Rattle.pct_ask.specs.Bodies.{Pending}
use Rattle.script_code.specs.Listing.{listing}
use Rattle.script_body.specs.Bodies.{bodies_of}
use Rattle.script_body.proofs.laws.ScriptBodies.{code_bodies}
use Rattle.worker_run.specs.Run.{directed_run}
use Rattle.choices.specs.Moments.{moments_of}
use Rattle.script_run.specs.Ready.{bodies_of_code}
use Rattle.directive_find.specs.Found.{Finds}
use Rattle.directive_find.specs.declared.finding.FoundOut.TheVariants.{Events, Passes}
use Rattle.choices.proofs.laws.FewMoments.{moments-few}
use Rattle.directive_find.proofs.laws.FoundMoments.{found-run}
use Rattle.directive_find.proofs.laws.Findings.{made-found, made-pass}
use Rattle.directive_find.proofs.finding.find.Goals as goal

pub invariant_of-whole : goal.invariant_of-whole
invariant_of-whole g c = record {
  few = omega (
    arith,
    ap length c.in_ok-moments.ensures,
    moments-few (schedule_of c.as_slice.result.now) c.args.points.now,
    c.requires.few_points,
  );
}

pub reduce-requires-clause-leads : goal.reduce-requires-clause-leads
reduce-requires-clause-leads g c κs within =
    let bodies = bodies_of_code (listing c.args.code.now) in
    let all = c.in_ok-moments.ensures ∙ ap (λ es. moments_of (schedule_of es) c.args.points.now)
    c.as_slice.ensures in
    record {
      made = c.in_ok-whole.whole.events;
      is_directed =
          ap (λ ms. directed_run c.args.deal.now bodies c.args.order.now ms c.new-limit.result) all
          ∙ found-run c.args.deal.now bodies c.args.order.now c.args.points.now
          c.new-limit.result c.in_ok-whole.whole.events c.in_ok-whole.whole.verdict c.requires.order
          (sym c.requires.whole) c.in_ok-whole.ensures.code;
      number = c.len-steps.ensures;
    }

pub returns-then-is : goal.returns-then-is
returns-then-is g c = λ script of.
    let deal = c.args.deal.now in
    let code = listing c.args.code.now in
    let order = c.args.order.now in
    let points = c.args.points.now in
    let B : List Pending → ℕ → Type 0 = λ bodies most. Finds deal bodies order points most
    (Passes c.len-steps.result) in
    subst (B (bodies_of script)) c.new-limit.ensures
    (subst (λ bodies. B bodies c.new-limit.result) (code_bodies script code of.is_code)
    (made-pass deal (bodies_of_code code) order c.new-limit.result points c.in_ok-whole.whole.events
    c.in_ok-whole.whole.verdict c.len-steps.result c.requires.order c.requires.whole
    c.in_ok-whole.ensures.code (c.is.ensures.0 c.if-is.true) c.len-steps.ensures))

pub returns : goal.returns
returns g c = λ script of.
    let deal = c.args.deal.now in
    let code = listing c.args.code.now in
    let order = c.args.order.now in
    let points = c.args.points.now in
    let whole = c.in_ok-whole.whole in
    let short = c.in_ok-short.short in
    let all = c.in_ok-moments.ensures ∙ ap (λ es. moments_of (schedule_of es) points)
    c.as_slice.ensures in
    let B : List Pending → ℕ → Type 0 = λ bodies most. Finds deal bodies order points most
    (Events short.moments whole.verdict short.steps) in
    subst (B (bodies_of script)) c.new-limit.ensures
    (subst (λ bodies. B bodies c.new-limit.result) (code_bodies script code of.is_code)
    (made-found deal (bodies_of_code code) order c.new-limit.result points whole.events
    whole.verdict
    c.in_ok-moments.moments short c.requires.order c.requires.whole c.requires.points
    c.in_ok-whole.ensures.few c.in_ok-whole.ensures.code
    (λ same. let told = c.is.ensures.1 same in let other = c.if-is.false in cc) all
    c.in_ok-short.ensures))
