-- The sample threads name only what there is.
use Rattle.std.proofs.Common.{ℕ, zero, suc, ◌+◌, ◌≤◌, ℤ, List, [], ◌∷◌, map, arith}
use Rattle.pct_ask.specs.Objects.{Sizes, PostIsInRange}
use Rattle.pct_ask.specs.Bodies.{AreInRange}
use Rattle.worker_run.specs.Samples.{sample_post, sample_pending}

module _ (sizes : Sizes) (vars : 1 ≤ sizes.vars) (threads : 2 ≤ sizes.threads) where
  post-within : (t steps : ℕ) (seen : ℤ) → PostIsInRange sizes (sample_post t steps seen).ask
  post-within zero zero seen = omega arith
  post-within zero (suc zero) seen = omega arith
  post-within zero (suc (suc steps)) seen = tt
  post-within (suc zero) zero seen = omega arith
  post-within (suc zero) (suc zero) seen = omega arith
  post-within (suc zero) (suc (suc steps)) seen = tt
  post-within (suc (suc t)) zero seen = omega arith
  post-within (suc (suc t)) (suc zero) seen = omega arith
  post-within (suc (suc t)) (suc (suc zero)) seen = omega arith
  post-within (suc (suc t)) (suc (suc (suc zero))) seen = tt
  post-within (suc (suc t)) (suc (suc (suc (suc steps)))) seen = tt

  sample-within : (t steps : ℕ) (seen : ℤ) (answers : List ℤ)
      → PostIsInRange sizes (sample_pending t steps seen answers).ask
  sample-within t steps seen [] = post-within t steps seen
  sample-within t steps seen (answer ∷ answers) = sample-within t (steps + 1) answer answers

  -- so do bodies that each post as a sample thread does
  pub samples-within : {X : Type 0} (thread steps : X → ℕ) (seen : X → ℤ) (items : List X)
      → AreInRange sizes (map (λ b. sample_pending (thread b) (steps b) (seen b)) items)
  samples-within thread steps seen [] t answers = tt
  samples-within thread steps seen (b ∷ items) zero answers =
      sample-within (thread b) (steps b) (seen b) answers
  samples-within thread steps seen (b ∷ items) (suc t) answers =
      samples-within thread steps seen items t answers
