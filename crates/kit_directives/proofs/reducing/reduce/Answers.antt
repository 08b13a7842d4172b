-- One round more, or none.
use Rattle.std.proofs.Common.{length, arith, ap}
use Rattle.kit_directives.specs.Finding.{Whole}
use Rattle.kit_directives.proofs.Rounds.{one-round, some-leaves, none-leaves, some-fewer}
use Rattle.kit_directives.proofs.reducing.reduce.Goals as goal

pub rounds-init : goal.rounds-init
rounds-init g c = record {
  few = c.requires.few_moments;
  leads = c.requires.leads;
  left = Whole c.args.whole.moments;
}

pub rounds-preserved : goal.rounds-preserved
rounds-preserved g c =
    let trial = c.args.trial.now in
    let leaves = some-leaves trial.deal.now trial.order.now trial.limit c.args.verdict.now
    c.rounds.short.moments c.as_slice.result.now c.in_ok-shorter.field-0 c.as_slice.ensures
    c.in-Some.shorter c.in-Some.is c.in_ok-shorter.ensures.leaves in
    record {
      few =
          (let fewer = some-fewer c.as_slice.result.now c.in_ok-shorter.field-0 c.in-Some.shorter
          c.in-Some.is c.in_ok-shorter.ensures.fewer in
          omega (arith, fewer, ap length c.as_slice.ensures, c.rounds.invariant.few));
      leads = leaves.3;
      left = one-round trial.deal.now trial.order.now trial.limit c.args.verdict.now
          c.args.whole.moments c.rounds.short.moments c.in-Some.shorter leaves
          c.rounds.invariant.left;
    }

pub returns : goal.returns
returns g c =
    let trial = c.args.trial.now in
    record {
      left = c.rounds.invariant.left;
      leads = c.rounds.invariant.leads;
      needed = none-leaves trial.deal.now trial.order.now trial.limit c.args.verdict.now
          c.rounds.short.moments c.as_slice.result.now c.in_ok-shorter.field-0 c.as_slice.ensures
          c.in_default.is c.in_ok-shorter.ensures.leaves;
    }
