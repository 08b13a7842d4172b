use Rattle.std.proofs.Common.{◌<◌}
use Rattle.lock_order.specs.declared.nesting.Nesting.{Nesting}
use Rattle.lock_order.specs.Chosen.{IsOfPair}
use Rattle.lock_order.proofs.held.first_nesting.Given as goal

-- no step so far is a nesting of the pair
abbrev pub invariant-loop-place : goal.invariant-loop-place
invariant-loop-place l = (nesting : Nesting) → IsOfPair l.events l.held l.mutex nesting
    → l.place < nesting.step
