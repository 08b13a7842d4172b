use Rattle.std.proofs.Common.{◌≡◌, ℕ, length, get_or, Some, slice_get}
use Rattle.lock_order.specs.declared.nesting.Nesting.{Nesting}
use Rattle.lock_order.specs.Chosen.{IsFirstOfPair, next_in_ring}
use Rattle.lock_order.proofs.chosen.nestings_of.Given as goal

abbrev pub invariant-loop-place : goal.invariant-loop-place
invariant-loop-place l =
    (length l.nestings ≡ l.place) × ((place : ℕ) (nesting : Nesting)
    → slice_get l.nestings place ≡ Some nesting
    → IsFirstOfPair l.events (get_or l.ring place 0) (next_in_ring l.ring place) nesting)
