-- What is left of a list is no longer than it.
use Rattle.std.proofs.Common.{◌≤◌, List, length, arith}
use Rattle.std.proofs.lemmas.List.Edits.{length-remove}
use Rattle.kit_directives.specs.Finding.{IsLeftOf, Whole, Without}

pub left-short : {X : Type 0} (items left : List X) → IsLeftOf items left
    → length left ≤ length items
left-short items left (Whole _) = omega arith
left-short items left (Without _ before place within rest) =
    omega (arith, length-remove before place within, left-short items before rest)
