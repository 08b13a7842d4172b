use Rattle.std.proofs.Common.{◌≡◌, ℕ, length, subst, arith}
use Rattle.rank_now.proofs.Words.{AreCompared, compared-all}
use Rattle.rank_now.proofs.above.compare_again.Goals as goal

pub returns : goal.returns
returns c =
    let values = c.args.values.now in
    let end : c.loop-other.other ≡ length values = omega (arith, c.loop-other-test.false) in
    let P : ℕ → Type 0 = λ n. AreCompared values c.args.thread n c.loop-other.above
    c.loop-other.greater in
    compared-all values c.args.thread c.requires.few_threads c.requires.thread c.loop-other.above
    c.loop-other.greater (subst P end c.loop-other.invariant)
