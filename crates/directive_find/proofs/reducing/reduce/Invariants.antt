use Rattle.std.proofs.Common.{List, length}
use Rattle.rank_now.specs.declared.moment.Moment.{Moment}
use Rattle.script_code.specs.Listing.{listing}
use Rattle.script_run.specs.Ready.{bodies_of_code}
use Rattle.directive_find.specs.Reduced.{HasVerdict, LeadsTo, Reduces}
use Rattle.directive_find.proofs.reducing.reduce.Given as goal

-- what is left so far leads to the verdict, and what it reduces to is what all moments reduce to
abbrev pub invariant-rounds : goal.invariant-rounds
invariant-rounds g l =
    let deal = l.ready.deal.now in
    let bodies = bodies_of_code (listing l.ready.code.now) in
    let order = l.priorities.order.now in
    record {
      leads : LeadsTo deal bodies order l.limit l.verdict l.short.moments l.short.steps;
      rest : (left : List Moment)
          → Reduces (HasVerdict deal bodies order l.limit l.verdict) l.short.moments left
          → Reduces (HasVerdict deal bodies order l.limit l.verdict) l.fn.whole.moments left;
    }

abbrev pub decreases-rounds : goal.decreases-rounds
decreases-rounds g l = length l.short.moments
