use Rattle.kit_directives.specs.Finding.{NeedsFirst}
use Rattle.kit_directives.proofs.reducing.leave_out.Given as goal

-- each moment so far is needed
abbrev pub invariant-loop-place : goal.invariant-loop-place
invariant-loop-place g l =
    NeedsFirst l.trial.deal.now l.trial.order.now l.trial.limit l.verdict l.moments
    l.place
