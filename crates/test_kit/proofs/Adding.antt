-- The adders name only what there is.
use Rattle.std.proofs.Common.{ℕ, zero, suc, ◌-◌, ◌≤◌, ℤ, List, [], ◌∷◌, arith}
use Rattle.pct_ask.specs.Objects.{Sizes, PostIsInRange}
use Rattle.test_kit.specs.Adders.{adder_post, adder_pending}

post-in-range : (sizes : Sizes) → 1 ≤ sizes.vars → (left : ℕ)
    → PostIsInRange sizes (adder_post left).ask
post-in-range sizes some zero = tt
post-in-range sizes some (suc left) = omega arith

pub adder-in-range : (sizes : Sizes) → 1 ≤ sizes.vars → (left : ℕ) (answers : List ℤ)
    → PostIsInRange sizes (adder_pending left answers).ask
adder-in-range sizes some left [] = post-in-range sizes some left
adder-in-range sizes some left (answer ∷ answers) = adder-in-range sizes some (left - 1) answers
