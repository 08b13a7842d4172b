-- Each number is the one that its block tells.
use Rattle.std.proofs.Common.{◌≡◌, ◌+◌, ◌-◌, suc, refl, arith}
use Rattle.sweep.proofs.Places.{some-smaller, next-block, next-rest, next-list, list-there}
use Rattle.sweep.proofs.choice.points_at.Goals as goal

pub nonzero_div-rest : goal.nonzero_div-rest
nonzero_div-rest c =
    let at = c.loop-point in
    let n = c.args.points - (at._point + 1) in
    let next : c.args.points - at._point ≡ suc n = omega (arith, c.loop-point-test.true) in
    some-smaller c.args.steps c.args.points at._point n at.rest at.block c.requires.some next
    at.invariant.block at.invariant.low

pub nonzero_rem-rest : goal.nonzero_rem-rest
nonzero_rem-rest c =
    let at = c.loop-point in
    let n = c.args.points - (at._point + 1) in
    let next : c.args.points - at._point ≡ suc n = omega (arith, c.loop-point-test.true) in
    some-smaller c.args.steps c.args.points at._point n at.rest at.block c.requires.some next
    at.invariant.block at.invariant.low

pub loop-point-preserved : goal.loop-point-preserved
loop-point-preserved c =
    let at = c.loop-point in
    let n = c.args.points - (at._point + 1) in
    let next : c.args.points - at._point ≡ suc n = omega (arith, c.loop-point-test.true) in
    record {
      made = next-list c.args.steps c.args.points at._point n at.rest at.block c.requires.some next
          at.invariant.block at.invariant.low refl c.args.place at.list c.try_push.new.self
          at.invariant.made c.in_ok-try_push.ensures.ok;
      block =
          next-block c.args.steps c.args.points at._point n at.rest at.block c.requires.some next
          at.invariant.block at.invariant.low refl;
      low =
          next-rest c.args.steps c.args.points at._point n at.rest at.block c.requires.some next
          at.invariant.block at.invariant.low refl;
    }

pub returns : goal.returns
returns c =
    let at = c.loop-point in
    let none : c.args.points - at._point ≡ 0 = omega (arith, c.loop-point-test.false) in
    list-there c.args.steps c.args.points at._point c.args.place at.rest at.list c.requires.some
    c.requires.place none at.invariant.made
