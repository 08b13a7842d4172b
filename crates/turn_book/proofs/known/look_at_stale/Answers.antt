use Rattle.std.proofs.Common.{ℕ, refl, sym, ap, subst, ◌∙◌, arith, rules, w64}
use Rattle.std.specs.Int.{bit_at, trailing_zeros}
use Rattle.std.proofs.lemmas.Nat.Bits.{bit_at-trailing_zeros}
use Rattle.sync_store.specs.declared.touched.Touched.TheVariants.{Mutex}
use Rattle.turn_book.specs.Board.{LockOne}
use Rattle.turn_book.proofs.Waiters.{cleared-less}
use Rattle.turn_book.proofs.Lockers.{less-stale, lock-one, none-stale}
use Rattle.turn_book.proofs.known.look_at_stale.Goals as goal

pub loop-left-init : goal.loop-left-init
loop-left-init c = (refl, c.requires.known)

pub loop-left-smaller : goal.loop-left-smaller
loop-left-smaller c =
    let left = c.loop-left.left in
    let lowest = bit_at-trailing_zeros w64 left (omega arith) (search rules) in
    cleared-less left (trailing_zeros w64 left) lowest.0 lowest.1

pub look_at_alike-requires-clause-alike : goal.look_at_alike-requires-clause-alike
look_at_alike-requires-clause-alike c =
    let P : ℕ → Type 0 = LockOne c.args.posts.now in
    subst P (sym c.lockers_at-alike.ensures)
    (lock-one c.args.posts.now c.args.lockers.now c.requires.lockers
    (Mutex (trailing_zeros w64 c.loop-left.left)))

pub look_at_alike-requires-clause-as_many : goal.look_at_alike-requires-clause-as_many
look_at_alike-requires-clause-as_many c = c.loop-left.invariant.0 ∙ c.requires.as_many

pub loop-left-preserved : goal.loop-left-preserved
loop-left-preserved c =
    let left = c.loop-left.left in
    let k : ℕ = trailing_zeros w64 left in
    let lowest = bit_at-trailing_zeros w64 left (omega arith) (search rules) in
    let word = c.lockers_at-alike.ensures in
    let looked = c.look_at_alike.ensures in (
      looked.many ∙ c.loop-left.invariant.0,
      less-stale c.args.store.now c.args.posts.now c.args.lockers.now c.requires.lockers
          c.requires.few left k c.loop-left.known c.look_at_alike.new.known lowest.0
          (λ u small set. looked.looked u small (ap (λ w. bit_at w u) word ∙ set))
          (λ u small none. looked.others u small (ap (λ w. bit_at w u) word ∙ none))
          c.loop-left.invariant.1,
    )

pub returns : goal.returns
returns c =
    none-stale c.args.store.now c.args.posts.now c.loop-left.left c.loop-left.known
    (omega (arith, c.loop-left-test.false)) (c.loop-left.invariant.0 ∙ c.requires.as_many)
    c.loop-left.invariant.1
