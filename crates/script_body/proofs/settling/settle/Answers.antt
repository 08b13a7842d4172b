use Rattle.std.proofs.Common.{◌≡◌, ℕ, ◌+◌, ◌-◌, sym, ap, ◌∙◌, arith}
use Rattle.script_tree.specs.Posts.{most_moves}
use Rattle.script_code.specs.Listing.{listing}
use Rattle.script_code.specs.Placed.{listing_of}
use Rattle.script_code.proofs.laws.Listings.{listing_at, ends}
use Rattle.script_body.specs.Spots.{spot_of}
use Rattle.script_body.proofs.Steps.{most_is, the_stand, stand_moves, settled_post}
use Rattle.script_body.proofs.Steps.{settled_move_fault, settled_spin}
use Rattle.script_body.proofs.settling.settle.Goals as goal

pub returns-in-Post : goal.returns-in-Post
returns-in-Post c =
    let code = listing_of (listing c.args.code.now) c.args.thread in
    let from = spot_of c.args.state.now in
    let last = ends code (listing_at (listing c.args.code.now) c.args.thread c.args.code.now.placed
    c.requires.thread) in
    settled_post code last from (spot_of c.loop.state) (spot_of c.stop.new.state)
    (most_moves - c.loop.counter) c.turn_at.new.post c.loop.invariant.same
    (sym c.in-Post.ensures) c.stop.ensures c.loop.invariant.inside

pub returns-in-Err : goal.returns-in-Err
returns-in-Err c =
    let code = listing_of (listing c.args.code.now) c.args.thread in
    let from = spot_of c.args.state.now in
    let last = ends code (listing_at (listing c.args.code.now) c.args.thread c.args.code.now.placed
    c.requires.thread) in
    let one : most_moves - c.loop.counter ≡ most_moves - (c.loop.counter + 1) + 1 =
    omega (arith, most_is, c.loop-test.true) in
    settled_move_fault code last from (spot_of c.loop.state) (spot_of c.make_move.new.state)
    (spot_of c.stop-in-Err.new.state) (most_moves - c.loop.counter)
    (most_moves - (c.loop.counter + 1)) c.in-Move.line c.in-Err.kind c.fault.result
    c.loop.invariant.same one (sym c.in-Move.ensures) c.in-Err.ensures.fault c.fault.ensures
    c.stop-in-Err.ensures

pub loop-preserved : goal.loop-preserved
loop-preserved c =
    let code = listing_of (listing c.args.code.now) c.args.thread in
    let one : most_moves - c.loop.counter ≡ most_moves - (c.loop.counter + 1) + 1 =
    omega (arith, most_is, c.loop-test.true) in
    record {
      inside = c.make_move.ensures.inside;
      same =
          c.loop.invariant.same ∙ stand_moves code (most_moves - c.loop.counter)
          (most_moves - (c.loop.counter + 1)) (spot_of c.loop.state) (spot_of c.make_move.new.state)
          one c.in_default.ensures.moved;
    }

pub returns-in-Post-turn_at : goal.returns-in-Post-turn_at
returns-in-Post-turn_at c =
    let code = listing_of (listing c.args.code.now) c.args.thread in
    let from = spot_of c.args.state.now in
    let last = ends code (listing_at (listing c.args.code.now) c.args.thread c.args.code.now.placed
    c.requires.thread) in
    settled_post code last from (spot_of c.loop.state) (spot_of c.stop-in-Post-turn_at.new.state)
    (most_moves - c.loop.counter) c.turn_at-2.new.post c.loop.invariant.same
    (sym c.in-Post-turn_at.ensures) c.stop-in-Post-turn_at.ensures c.loop.invariant.inside

pub returns-in-Move-turn_at : goal.returns-in-Move-turn_at
returns-in-Move-turn_at c =
    let code = listing_of (listing c.args.code.now) c.args.thread in
    let from = spot_of c.args.state.now in
    let last = ends code (listing_at (listing c.args.code.now) c.args.thread c.args.code.now.placed
    c.requires.thread) in
    let none : most_moves - c.loop.counter ≡ 0 = omega (arith, most_is, c.loop-test.false) in
    settled_spin code last from (spot_of c.loop.state) (spot_of c.stop-in-Move-turn_at.new.state)
    c.in-Move-turn_at.line c.fault-in-Move-turn_at.result
    (c.loop.invariant.same ∙ ap (λ (k : ℕ). the_stand code k (spot_of c.loop.state)) none)
    (sym c.in-Move-turn_at.ensures) c.fault-in-Move-turn_at.ensures
    c.stop-in-Move-turn_at.ensures
