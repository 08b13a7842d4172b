use Rattle.std.proofs.Common.{◌≡◌, ◌<◌, ℕ, length, get_or, subst, arith, w64}
use Rattle.std.proofs.lemmas.Nat.Bits.{bit_at_set_same, bit_at_set_other}
use Rattle.rank_now.proofs.Words.{AreBefore, before-more, before-above}
use Rattle.rank_now.proofs.above.first_above.Goals as goal

pub loop-thread-preserved : goal.loop-thread-preserved
loop-thread-preserved c =
    let order = c.args.order.now in
    let place = c.loop-thread.thread-index in
    let before = c.loop-thread.before in
    let within : place < length order = omega (arith, c.loop-thread-test.true) in
    let thread = get_or order place 0 in
    let low : thread < 64 =
    omega (arith, c.requires.order.below place within, c.requires.few_threads) in
    before-more order c.requires.order place c.loop-thread.above.items before _ within
    (bit_at_set_same w64 before thread low)
    (λ u apart. bit_at_set_other w64 before thread low u apart) c.loop-thread.invariant

pub returns : goal.returns
returns c = λ count.
    let order = c.args.order.now in
    let end : c.loop-thread.thread-index ≡ length order = omega (arith, c.loop-thread-test.false) in
    let P : ℕ → Type 0 = λ n. AreBefore order n c.loop-thread.above.items c.loop-thread.before in
    before-above order c.requires.order c.loop-thread.above.items c.loop-thread.before count
    (subst P end c.loop-thread.invariant)
