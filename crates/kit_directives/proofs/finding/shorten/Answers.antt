-- What is left of the run's moments leads to its verdict.
use Rattle.std.proofs.Common.{List, refl, subst, arith}
use Rattle.rank_now.specs.declared.moment.Moment.{Moment}
use Rattle.kit_directives.specs.Finding.{IsLeftOf}
use Rattle.kit_directives.proofs.Fewer.{left-short}
use Rattle.kit_directives.proofs.finding.shorten.Goals as goal

pub invariant_of-result : goal.invariant_of-result
invariant_of-result g c = record {
  few = (let fewer = left-short c.in_ok-whole.whole.moments c.in_ok-short.short.moments
      c.in_ok-short.ensures.left in
      omega (arith, fewer, c.in_ok-whole.ensures.few));
}

pub returns : goal.returns
returns g c = record {
  made = c.args.made.now;
  run = c.requires.run;
  verdict = refl;
  fails = c.requires.fails;
  low = c.in_ok-low.ensures;
  left = subst (λ (ms : List Moment). IsLeftOf ms c.in_ok-short.short.moments)
      c.in_ok-whole.ensures.moments c.in_ok-short.ensures.left;
  leads = c.in_ok-short.ensures.leads;
  needed = c.in_ok-short.ensures.needed;
}
