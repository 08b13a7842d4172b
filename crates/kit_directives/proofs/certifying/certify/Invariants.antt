use Rattle.kit_directives.specs.Certified.{AreRowsOfOrders}
use Rattle.kit_directives.proofs.certifying.certify.Given as goal

-- a row for each order so far
abbrev pub invariant-loop-place : goal.invariant-loop-place
invariant-loop-place g l =
    AreRowsOfOrders l.deal l.directive l.steps l.limit l.place l.rows
