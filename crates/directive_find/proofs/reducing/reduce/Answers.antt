-- One round more, or none.
use Rattle.script_code.specs.Listing.{listing}
use Rattle.script_run.specs.Ready.{bodies_of_code}
use Rattle.directive_find.specs.Reduced.{Stays}
use Rattle.directive_find.proofs.Rounds.{one-round, some-leaves, none-leaves}
use Rattle.directive_find.proofs.reducing.reduce.Goals as goal

pub rounds-preserved : goal.rounds-preserved
rounds-preserved g c =
    let ready = c.args.ready.now in
    let bodies = bodies_of_code (listing ready.code.now) in
    let order = c.args.priorities.now.order.now in
    let leaves = some-leaves ready.deal.now bodies order c.args.limit c.args.verdict.now
    c.rounds.short.moments c.as_slice.result.now c.in_ok-shorter.field-0 c.as_slice.ensures
    c.in-Some.shorter c.in-Some.is c.in_ok-shorter.ensures.leaves in
    record {
      leads = leaves.3;
      rest = λ left r. c.rounds.invariant.rest left
          (one-round ready.deal.now bodies order c.args.limit c.args.verdict.now
          c.rounds.short.moments left c.in-Some.shorter leaves r);
    }

pub returns : goal.returns
returns g c =
    let ready = c.args.ready.now in
    let bodies = bodies_of_code (listing ready.code.now) in
    record {
      reduced = c.rounds.invariant.rest c.rounds.short.moments
          (Stays c.rounds.short.moments (none-leaves ready.deal.now bodies
          c.args.priorities.now.order.now c.args.limit c.args.verdict.now
          c.rounds.short.moments c.as_slice.result.now
          c.in_ok-shorter.field-0 c.as_slice.ensures c.in_default.is
          c.in_ok-shorter.ensures.leaves));
      leads = c.rounds.invariant.leads;
    }
