-- All choices are counted.
use Rattle.std.proofs.Common.{ℕ, List, subst, ◌∙◌, arith}
use Rattle.pct_ask.specs.declared.verdict.Verdict.TheVariants.{Passed}
use Rattle.pct_ask.specs.Bodies.{Pending}
use Rattle.script_code.specs.Listing.{listing}
use Rattle.script_body.proofs.laws.ScriptBodies.{code_bodies}
use Rattle.script_run.specs.Ready.{bodies_of_code}
use Rattle.sweep.specs.Rows.{SweepSetup, choices_of}
use Rattle.sweep.specs.Swept.{Sweeps}
use Rattle.sweep.specs.declared.sweeping.Answer.TheVariants.{Whole}
use Rattle.sweep.specs.Weights.{spread, often_in}
use Rattle.sweep.proofs.Spreads.{spread-once}
use Rattle.sweep.proofs.Steps.{none-counted, all-counted}
use Rattle.sweep.proofs.Whole.{counts-alike, ranked}
use Rattle.sweep.proofs.sweeping.sweep.Goals as goal

pub batches-init : goal.batches-init
batches-init g c =
    let made = c.new-counts.ensures in
    let setup : SweepSetup = record {
      deal = c.args.deal.now;
      bodies = bodies_of_code (listing c.args.code.now);
      many = c.points-points.result;
      steps = c.steps-steps.result;
      limit = c.args.limit;
    } in
    record {
      within = omega (arith, made.place);
      some = omega arith;
      counted = none-counted setup c.new-counts.result.reach c.new-counts.result.tally made.place
          made.longest made.tally;
    }

pub count_ahead-requires-clause-some : goal.count_ahead-requires-clause-some
count_ahead-requires-clause-some g c κs inside = c.batches.invariant.some

pub count_ahead-requires-clause-before : goal.count_ahead-requires-clause-before
count_ahead-requires-clause-before g c κs inside = c.batches.invariant.counted

pub batches-preserved : goal.batches-preserved
batches-preserved g c = record {
  within = c.in_ok-count_ahead.ensures.within;
  some = c.next_size-size.ensures;
  counted = c.in_ok-count_ahead.ensures.counted;
}

pub batches-smaller : goal.batches-smaller
batches-smaller g c =
    let counted = c.in_ok-count_ahead.ensures in
    omega (arith, counted.goes_on, counted.within, c.batches-test.true)

pub returns : goal.returns
returns g c = λ script of.
    let code = listing c.args.code.now in
    let setup : List Pending → ℕ → ℕ → SweepSetup = λ bodies many steps. record {
      deal = c.args.deal.now;
      bodies = bodies;
      many = many;
      steps = steps;
      limit = c.args.limit;
    } in
    let coded = setup (bodies_of_code code) c.points-points.result c.steps-steps.result in
    let told = c.in-Some.ensures in
    let counts = c.batches.counts in
    let rows = spread (often_in coded) coded 0 (choices_of coded) in
    let all = all-counted coded counts.reach counts.tally c.batches.invariant.counted
    (omega (arith, told.0, c.batches-test.false)) in
    let S : SweepSetup → Type 0 = λ setup. Sweeps setup (Whole (record {
      choices = c.in-Some.choices;
      passed = c.passed-passed.result;
      groups = c.in_ok-groups.groups;
    })) in
    let many = c.points-points.ensures.number in
    let steps = c.steps-steps.ensures in
    subst S (λ i. setup (code_bodies script code of.is_code i) (many i) (steps.number i)) (
      told.1,
      record {
        choices = told.0;
        rows = spread (λ c. 1) coded 0 (choices_of coded);
        are = spread-once coded 0 (choices_of coded);
        ranked = ranked coded steps.fits.0 c.in_ok-groups.groups
            (c.in_ok-groups.ensures.ranking rows all);
        passed = c.passed-passed.ensures rows all ∙ counts-alike coded Passed;
      },
    )
