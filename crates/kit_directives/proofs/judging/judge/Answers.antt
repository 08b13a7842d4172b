-- The run is too long, has another verdict, or leads to the directive's.
use Rattle.std.proofs.Common.{◌≡◌, ◌≢◌, true, false, refl, ap, ◌∙◌, arith}
use Rattle.turn_book.specs.Posts.{schedule_of}
use Rattle.choices.specs.Points.{points_of}
use Rattle.kit_directives.proofs.judging.judge.Goals as goal

pub returns-then-many-steps : goal.returns-then-many-steps
returns-then-many-steps c = λ deal limit run. (
  refl,
  record {
    file = c.args.file.now;
    directed = run;
    number = c.len-many.ensures;
    long = c.if-many-steps.true;
  },
)

pub returns-then-not-is : goal.returns-then-not-is
returns-then-not-is c = λ deal limit run.
    let apart : c.args.file.now.verdict ≢ c.args.directive.now.verdict = λ same.
    let yes : c.is.result ≡ true = c.is.ensures.1 same in
    let no : c.is.result ≡ false = c.if-not-is.true in
    cc in (
      refl,
      record {
        file = c.args.file.now;
        directed = run;
        verdict_is = refl;
        short = omega (arith, c.len-many.ensures, c.if-many-steps.false);
        apart = apart;
      },
    )

pub returns : goal.returns
returns c = λ deal limit run. record {
  file = c.args.file.now;
  directed = run;
  verdict = c.is.ensures.0 c.if-not-is.false;
  short = omega (arith, c.len-many.ensures, c.if-many-steps.false);
  order_is = refl;
  points_are =
      c.in_ok-points.ensures
      ∙ ap (λ es. points_of (schedule_of es) c.args.steps c.as_slice-moments.result.now)
      c.as_slice.ensures
      ∙ ap (points_of (schedule_of c.args.file.now.events) c.args.steps)
      c.as_slice-moments.ensures;
}
