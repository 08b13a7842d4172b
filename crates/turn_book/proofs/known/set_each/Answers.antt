use Rattle.std.proofs.Common.{◌≡◌, ◌<◌, ℕ, length, ap, ◌∙◌, arith, rules, w64}
use Rattle.std.specs.Int.{bit_at, trailing_zeros}
use Rattle.std.proofs.lemmas.Nat.Bits.{bit_at-trailing_zeros, bit_at-zero}
use Rattle.turn_book.proofs.Waiters.{cleared-less}
use Rattle.turn_book.proofs.Lockers.{set-none, set-more}
use Rattle.turn_book.proofs.known.set_each.Goals as goal

pub loop-left-init : goal.loop-left-init
loop-left-init c = set-none c.args.threads c.args.chance c.args.known.now

pub bounds-known-thread : goal.bounds-known-thread
bounds-known-thread c =
    let left = c.loop-left.left in
    let lowest = bit_at-trailing_zeros w64 left (omega arith) (search rules) in
    let set = c.loop-left.invariant.within (trailing_zeros w64 left) lowest.0 lowest.1 in
    omega (
      arith,
      c.requires (trailing_zeros w64 left) lowest.0 set,
      c.loop-left.invariant.long,
    )

pub loop-left-smaller : goal.loop-left-smaller
loop-left-smaller c =
    let left = c.loop-left.left in
    let lowest = bit_at-trailing_zeros w64 left (omega arith) (search rules) in
    cleared-less left (trailing_zeros w64 left) lowest.0 lowest.1

pub loop-left-preserved : goal.loop-left-preserved
loop-left-preserved c =
    let left = c.loop-left.left in
    let known = c.loop-left.known in
    let k : ℕ = trailing_zeros w64 left in
    let lowest = bit_at-trailing_zeros w64 left (omega arith) (search rules) in
    let set = c.loop-left.invariant.within k lowest.0 lowest.1 in
    let inside : k < length known =
    omega (arith, c.requires k lowest.0 set, c.loop-left.invariant.long) in
    set-more c.args.threads c.args.chance c.args.known.now left k known lowest.0 set inside
    c.loop-left.invariant

pub returns-clause-these : goal.returns-clause-these
returns-clause-these c = λ u within set.
    let none : c.loop-left.left ≡ 0 = omega (arith, c.loop-left-test.false) in
    c.loop-left.invariant.done u within set (ap (λ w. bit_at w u) none ∙ bit_at-zero u)

pub returns-clause-others : goal.returns-clause-others
returns-clause-others c = c.loop-left.invariant.others
