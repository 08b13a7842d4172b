-- Each point is the one that its block tells.
use Rattle.std.proofs.Common.{◌≡◌, ◌≤◌, ◌+◌, ◌-◌, ◌*◌, ◌^◌, ◌/◌, ◌%◌, ℕ, suc, refl, sym, ap, ◌∙◌}
use Rattle.std.proofs.Common.{arith}
use Rattle.std.proofs.Common.{Option, Some, List}
use Rattle.std.proofs.Math.Nat.{mul-le-mul_left, mul-le-mul_right, pow-suc, pow-zero}
use Rattle.sweep.specs.Weights.{weight}
use Rattle.sweep.proofs.Places.{digits, some-smaller, digit-within, next-block, next-rest}
use Rattle.sweep.proofs.Places.{next-weight, points-get, power-next, more-power}
use Rattle.sweep.proofs.Weights.{weight-few}
use Rattle.sweep.proofs.choice.weight_at.Goals as goal

pow-one : (k : ℕ) → k ^ 1 ≡ k
pow-one k =
    pow-suc k 0 ∙ ap (λ n. n * k) (pow-zero k) ∙ (let e : 1 * k ≡ k = omega arith in e)

pub loop-point-init : goal.loop-point-init
loop-point-init c =
    let k = c.args.steps in
    let whole : c.args.points - 0 ≡ c.args.points = omega arith in
    let own : ℕ = weight k c.args.length (digits k c.args.points c.args.place) in
    record {
      made = ap (λ m. 1 * weight k c.args.length (digits k m c.args.place)) whole
          ∙ (let e : 1 * own ≡ own = omega arith in e);
      few = omega (arith, pow-zero k);
      block = c.list_count-block.ensures ∙ ap (λ m. k ^ m) (sym whole);
      low = omega (arith, c.requires.place, ap (λ m. k ^ m) whole);
    }

pub nonzero_div-rest : goal.nonzero_div-rest
nonzero_div-rest c =
    let at = c.loop-point in
    let n = c.args.points - (at._point + 1) in
    let next : c.args.points - at._point ≡ suc n = omega (arith, c.loop-point-test.true) in
    some-smaller c.args.steps c.args.points at._point n at.rest at.block c.requires.some next
    at.invariant.block at.invariant.low

pub nonzero_rem-rest : goal.nonzero_rem-rest
nonzero_rem-rest c =
    let at = c.loop-point in
    let n = c.args.points - (at._point + 1) in
    let next : c.args.points - at._point ≡ suc n = omega (arith, c.loop-point-test.true) in
    some-smaller c.args.steps c.args.points at._point n at.rest at.block c.requires.some next
    at.invariant.block at.invariant.low

pub overflow_add-rest : goal.overflow_add-rest
overflow_add-rest c =
    let at = c.loop-point in
    let n = c.args.points - (at._point + 1) in
    let next : c.args.points - at._point ≡ suc n = omega (arith, c.loop-point-test.true) in
    omega (
      arith,
      digit-within c.args.steps c.args.points at._point n at.rest at.block c.requires.some next
          at.invariant.block at.invariant.low,
      c.ranges.steps,
    )

pub point_weight-weight-requires-clause-within : goal.point_weight-weight-requires-clause-within
point_weight-weight-requires-clause-within c =
    let at = c.loop-point in
    let n = c.args.points - (at._point + 1) in
    let next : c.args.points - at._point ≡ suc n = omega (arith, c.loop-point-test.true) in
    omega (
      arith,
      digit-within c.args.steps c.args.points at._point n at.rest at.block c.requires.some next
          at.invariant.block at.invariant.low,
    )

pub point_weight-weight-requires-clause-few : goal.point_weight-weight-requires-clause-few
point_weight-weight-requires-clause-few c =
    omega (
      arith,
      more-power c.args.steps 1 c.args.points c.requires.some
          (omega (arith, c.loop-point-test.true)),
      pow-one c.args.steps,
      c.requires.few,
    )

pub overflow_mul-weight : goal.overflow_mul-weight
overflow_mul-weight c =
    let k = c.args.steps in
    let at = c.loop-point in
    let i = at._point in
    let n = c.args.points - (i + 1) in
    let next : c.args.points - i ≡ suc n = omega (arith, c.loop-point-test.true) in
    let digit = digit-within k c.args.points i n at.rest at.block c.requires.some next
    at.invariant.block at.invariant.low in
    let w = at.weight in
    let p = c.point_weight-weight.result in
    let few : p ≤ k =
    omega (
      arith,
      c.point_weight-weight.ensures,
      weight-few k c.args.length (at.rest / (at.block / k) + 1) (omega arith)
          (omega (arith, digit)),
    ) in
    let one : w * p ≤ w * k = mul-le-mul_left w few in
    let two : w * k ≤ k ^ i * k = mul-le-mul_right k at.invariant.few in
    omega (
      arith,
      one,
      two,
      power-next k i,
      more-power k (i + 1) c.args.points c.requires.some (omega (arith, c.loop-point-test.true)),
      c.requires.few,
    )

pub loop-point-preserved : goal.loop-point-preserved
loop-point-preserved c =
    let k = c.args.steps in
    let at = c.loop-point in
    let i = at._point in
    let n = c.args.points - (i + 1) in
    let next : c.args.points - i ≡ suc n = omega (arith, c.loop-point-test.true) in
    let digit = digit-within k c.args.points i n at.rest at.block c.requires.some next
    at.invariant.block at.invariant.low in
    let w = at.weight in
    let p = c.point_weight-weight.result in
    let few : p ≤ k =
    omega (
      arith,
      c.point_weight-weight.ensures,
      weight-few k c.args.length (at.rest / (at.block / k) + 1) (omega arith)
          (omega (arith, digit)),
    ) in
    let one : w * p ≤ w * k = mul-le-mul_left w few in
    let two : w * k ≤ k ^ i * k = mul-le-mul_right k at.invariant.few in
    record {
      made = ap (λ q. w * q * weight k c.args.length
          (digits k (c.args.points - (i + 1)) (at.rest % (at.block / k))))
          c.point_weight-weight.ensures
          ∙ next-weight k c.args.points i n at.rest at.block c.requires.some next
          at.invariant.block at.invariant.low refl c.args.length w
          (weight k c.args.length (digits k c.args.points c.args.place)) at.invariant.made;
      few = omega (arith, one, two, power-next k i);
      block =
          next-block k c.args.points i n at.rest at.block c.requires.some next at.invariant.block
          at.invariant.low refl;
      low =
          next-rest k c.args.points i n at.rest at.block c.requires.some next at.invariant.block
          at.invariant.low refl;
    }

pub returns : goal.returns
returns c = λ list there.
    let k = c.args.steps in
    let at = c.loop-point in
    let none : c.args.points - at._point ≡ 0 = omega (arith, c.loop-point-test.false) in
    let both : ◌≡◌ {A = Option (List ℕ)} (Some (digits k c.args.points c.args.place))
    (Some list) =
    sym (points-get k c.args.points c.args.place c.requires.some c.requires.place) ∙ there in
    let same : digits k c.args.points c.args.place ≡ list = cc in
    let made : at.weight * 1 ≡ weight k c.args.length (digits k c.args.points c.args.place) =
    ap (λ m. at.weight * weight k c.args.length (digits k m at.rest)) (sym none)
    ∙ at.invariant.made in
    omega (arith, made, ap (λ l. weight k c.args.length l) same)
