use Rattle.lock_order.proofs.StepNestings.{NestedSoFar}
use Rattle.lock_order.proofs.nested.nested_sets.Given as goal

abbrev pub invariant-loop-place : goal.invariant-loop-place
invariant-loop-place l = NestedSoFar l.events l.place l.sets
