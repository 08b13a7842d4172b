use Rattle.std.proofs.Common.{◌≤◌, ◌-◌}
use Rattle.script_code.specs.Listing.{listing}
use Rattle.script_run.specs.Ready.{bodies_of_code}
use Rattle.sweep.specs.Batches.{HasCounted}
use Rattle.sweep.proofs.sweeping.sweep.Given as goal

-- the choices before the place are counted
abbrev pub invariant-batches : goal.invariant-batches
invariant-batches g l = record {
  within : l.counts.reach.place ≤ l.choices;
  some : 1 ≤ l.size;
  counted : HasCounted (record {
    deal = l.deal;
    bodies = bodies_of_code (listing l.code);
    many = l.points;
    steps = l.steps;
    limit = l.fn.limit;
  }) l.counts.reach l.counts.tally;
}

abbrev pub decreases-batches : goal.decreases-batches
decreases-batches g l = l.choices - l.counts.reach.place
