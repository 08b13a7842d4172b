use Rattle.std.proofs.Common.{◌≡◌, ℕ, List, ◌++◌, replicate, ap, ◌∙◌, arith}
use Rattle.rand_chacha.specs.ChaCha.{of_seed}
use Rattle.priority_draw.specs.Words.{key_bytes}
use Rattle.priority_draw.proofs.WordLemmas.{of-key, view-of-key}
use Rattle.priority_draw.proofs.words.Words.of_seed.Goals as goal

made : (c : goal.After-from_seed) → c.from_seed.result ≡ of_seed (key_bytes c.args.seed)
made c =
    c.from_seed.ensures ∙ ap (λ (bytes : List ℕ). of_seed (bytes ++ replicate 24 0))
    (c.copy_from_slice.ensures.after ∙ c.to_le_bytes.ensures)

pub invariant_of-result : goal.invariant_of-result
invariant_of-result c =
    of-key c.args.seed c.from_seed.result (omega (arith, c.ranges.seed)) (made c)

pub returns : goal.returns
returns c = view-of-key c.args.seed c.from_seed.result (omega (arith, c.ranges.seed)) (made c)
