use Rattle.std.proofs.Common.{◌<◌, ℕ, length, ◌∙◌, arith, rules, w64}
use Rattle.std.specs.Int.{trailing_zeros}
use Rattle.std.proofs.lemmas.Nat.Bits.{bit_at-trailing_zeros}
use Rattle.turn_book.specs.Board.{next_posts_of}
use Rattle.turn_book.proofs.Boards.{chance-is}
use Rattle.turn_book.proofs.Lockers.{locker-there, same-chance}
use Rattle.turn_book.proofs.known.chance_of_alike.Goals as goal

pub bounds-posts-first : goal.bounds-posts-first
bounds-posts-first c =
    let alike = c.args.alike in
    let lowest =
    bit_at-trailing_zeros w64 alike (omega (arith, c.requires.some)) (search rules) in
    let one = c.requires.alike in
    locker-there c.args.posts.now one.0 (trailing_zeros w64 alike)
    (one.1 (trailing_zeros w64 alike) lowest.0 lowest.1)

pub chance_of-requires-clause-thread : goal.chance_of-requires-clause-thread
chance_of-requires-clause-thread c =
    let alike = c.args.alike in
    let lowest =
    bit_at-trailing_zeros w64 alike (omega (arith, c.requires.some)) (search rules) in
    let one = c.requires.alike in
    let there : trailing_zeros w64 alike < length c.args.posts.now =
    locker-there c.args.posts.now one.0 (trailing_zeros w64 alike)
    (one.1 (trailing_zeros w64 alike) lowest.0 lowest.1) in
    omega (arith, there, c.requires.threads)

pub returns : goal.returns
returns c = λ u within set.
    let alike = c.args.alike in
    let store = c.args.store.now in
    let posts = c.args.posts.now in
    let r = c.requires in
    let first : ℕ = trailing_zeros w64 alike in
    let lowest = bit_at-trailing_zeros w64 alike (omega (arith, r.some)) (search rules) in
    let one = r.alike in
    let is = chance-is store posts r.threads r.in_range c.args.standings.now r.standings in
    c.chance_of.ensures ∙ is first ∙ same-chance store (next_posts_of posts) one.0 first u
    (one.1 first lowest.0 lowest.1) (one.1 u within set)
