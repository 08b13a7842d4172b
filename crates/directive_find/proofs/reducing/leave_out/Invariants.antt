use Rattle.script_code.specs.Listing.{listing}
use Rattle.script_run.specs.Ready.{bodies_of_code}
use Rattle.directive_find.specs.Reduced.{HasVerdict, NeedsFirst}
use Rattle.directive_find.proofs.reducing.leave_out.Given as goal

-- each moment so far is needed
abbrev pub invariant-loop-place : goal.invariant-loop-place
invariant-loop-place g l =
    NeedsFirst (HasVerdict l.ready.deal.now (bodies_of_code (listing l.ready.code.now))
    l.priorities.order.now l.fn.limit l.verdict) l.priorities.moments.now l.place
