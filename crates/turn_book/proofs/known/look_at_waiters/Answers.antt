use Rattle.std.proofs.Common.{◌≡◌, ◌<◌, ℕ, length, ap, sym, ◌∙◌, arith, rules, w64}
use Rattle.std.specs.Int.{bit_at, trailing_zeros}
use Rattle.std.proofs.lemmas.List.{get_or_default}
use Rattle.std.proofs.lemmas.Nat.Bits.{bit_at-trailing_zeros, bit_at-zero}
use Rattle.policy_pick.specs.declared.chance.Chance.TheVariants.{Away, Ended}
use Rattle.policy_pick.specs.Choice.{is_open}
use Rattle.turn_book.proofs.Boards.{chance-is}
use Rattle.turn_book.proofs.Waiters.{looked-none, looked-more, cleared-less}
use Rattle.turn_book.proofs.known.look_at_waiters.Goals as goal

pub bounds-posts-other : goal.bounds-posts-other
bounds-posts-other c =
    let left = c.loop-left.left in
    let lowest = bit_at-trailing_zeros w64 left (omega arith) (search rules) in
    let set = c.loop-left.invariant.within (trailing_zeros w64 left) lowest.0 lowest.1 in
    omega (arith, c.requires.waiters.below (trailing_zeros w64 left) lowest.0 set)

pub chance_of-chance-requires-clause-thread : goal.chance_of-chance-requires-clause-thread
chance_of-chance-requires-clause-thread c =
    let left = c.loop-left.left in
    let lowest = bit_at-trailing_zeros w64 left (omega arith) (search rules) in
    let set = c.loop-left.invariant.within (trailing_zeros w64 left) lowest.0 lowest.1 in
    omega (arith, c.requires.waiters.below (trailing_zeros w64 left) lowest.0 set)

pub slice_copy_out-with_opened : goal.slice_copy_out-with_opened
slice_copy_out-with_opened c =
    let left = c.loop-left.left in
    let lowest = bit_at-trailing_zeros w64 left (omega arith) (search rules) in
    let set = c.loop-left.invariant.within (trailing_zeros w64 left) lowest.0 lowest.1 in
    omega (
      arith,
      c.requires.waiters.below (trailing_zeros w64 left) lowest.0 set,
      c.loop-left.invariant.long,
      c.requires.as_many,
    )

pub bounds-known-other : goal.bounds-known-other
bounds-known-other c =
    let left = c.loop-left.left in
    let lowest = bit_at-trailing_zeros w64 left (omega arith) (search rules) in
    let set = c.loop-left.invariant.within (trailing_zeros w64 left) lowest.0 lowest.1 in
    omega (
      arith,
      c.requires.waiters.below (trailing_zeros w64 left) lowest.0 set,
      c.loop-left.invariant.long,
      c.requires.as_many,
    )

pub loop-left-init : goal.loop-left-init
loop-left-init c =
    looked-none c.args.store.now c.args.posts.now c.args.waiters c.args.known.now 0

pub loop-left-smaller : goal.loop-left-smaller
loop-left-smaller c =
    let left = c.loop-left.left in
    let lowest = bit_at-trailing_zeros w64 left (omega arith) (search rules) in
    cleared-less left (trailing_zeros w64 left) lowest.0 lowest.1

pub loop-left-preserved : goal.loop-left-preserved
loop-left-preserved c =
    let left = c.loop-left.left in
    let k : ℕ = trailing_zeros w64 left in
    let store = c.args.store.now in
    let posts = c.args.posts.now in
    let known = c.loop-left.known in
    let r = c.requires in
    let lowest = bit_at-trailing_zeros w64 left (omega arith) (search rules) in
    let set = c.loop-left.invariant.within k lowest.0 lowest.1 in
    let there : k < store.threads = r.waiters.below k lowest.0 set in
    let inside : k < length known =
    omega (arith, there, c.loop-left.invariant.long, r.as_many) in
    let read = get_or_default known k Away Ended inside in
    let is = chance-is store posts r.threads r.in_range c.args.standings.now r.standings in
    looked-more store posts c.args.waiters c.args.known.now left k known
    c.loop-left.opened c.with_opened-opened.result c.chance_of-chance.result
    c.loop-left.invariant lowest.0 lowest.1 inside
    (c.chance_of-chance.ensures ∙ is k)
    (λ none goes. sym (ap is_open read) ∙ c.with_opened-opened.ensures.this none goes)
    c.with_opened-opened.ensures.others

pub returns-clause-looked : goal.returns-clause-looked
returns-clause-looked c = λ u small set.
    let none : c.loop-left.left ≡ 0 = omega (arith, c.loop-left-test.false) in
    c.loop-left.invariant.done u small set (ap (λ w. bit_at w u) none ∙ bit_at-zero u)

pub returns-clause-others : goal.returns-clause-others
returns-clause-others c = c.loop-left.invariant.others

pub returns-clause-opens : goal.returns-clause-opens
returns-clause-opens c = λ u small set bit goes.
    let none : c.loop-left.left ≡ 0 = omega (arith, c.loop-left-test.false) in
    c.loop-left.invariant.opens u small set (ap (λ w. bit_at w u) none ∙ bit_at-zero u) bit goes
