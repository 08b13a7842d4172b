-- The lists name each of the three threads once.
use Rattle.std.proofs.Common.{[], ◌∷◌, refl, arith}
use Rattle.rank_now.specs.Order.{IsOrder}
use Rattle.choices.proofs.laws.OrderLists.{same-order}
use Rattle.test_commands.proofs.directives.exposes_the_lost_update.Goals as goal

second_last : IsOrder (0 ∷ 2 ∷ 1 ∷ [])
second_last = same-order 3 (0 ∷ 2 ∷ 1 ∷ []) refl (λ x. omega arith)

as_declared : IsOrder (0 ∷ 1 ∷ 2 ∷ [])
as_declared = same-order 3 (0 ∷ 1 ∷ 2 ∷ []) refl (λ x. refl)

pub expect_points-requires-clause-order : goal.expect_points-requires-clause-order
expect_points-requires-clause-order g c = λ κs. second_last

pub expect_too_long-requires-clause-order : goal.expect_too_long-requires-clause-order
expect_too_long-requires-clause-order g c = λ κs. second_last

pub expect_points-requires-2-clause-order : goal.expect_points-requires-2-clause-order
expect_points-requires-2-clause-order g c = λ κs. as_declared

pub expect_points-requires-3-clause-order : goal.expect_points-requires-3-clause-order
expect_points-requires-3-clause-order g c = λ κs. as_declared
