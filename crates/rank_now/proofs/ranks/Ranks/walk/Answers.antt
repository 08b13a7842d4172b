use Rattle.std.proofs.Common.{◌≡◌, suc, ◌+◌, ◌-◌, nat_lt, refl, sym, ◌∙◌, ap, arith}
use Rattle.std.specs.List.{count_by}
use Rattle.rank_now.proofs.Counts.{above-none, above-same, above-more, above-all}
use Rattle.rank_now.proofs.Places.{place-only}
use Rattle.rank_now.proofs.ranks.Ranks.walk.Goals as goal
use Rattle.rank_now.proofs.ranks.Ranks.walk.Goals.{in-Some+else-passed-place, in_default}

pub loop-below-init : goal.loop-below-init
loop-below-init c =
    let first : c.greatest-greatest.result - 0 ≡ c.greatest-greatest.result = omega arith in (
      omega arith,
      sym (ap (λ x. count_by (nat_lt x) c.args.self.now.values) first
          ∙ above-none c.args.self.now.values c.greatest-greatest.result
          c.greatest-greatest.ensures.bound),
    )

pub unreachable-requires : goal.unreachable-requires
unreachable-requires c =
    let all = above-all c.args.self.now.values c.greatest-greatest.ensures.positive in
    let last : c.greatest-greatest.result - c.loop-below.below ≡ 0 =
    omega (arith, c.loop-below-test.false) in
    let counted = ap (λ x. count_by (nat_lt x) c.args.self.now.values) last in
    omega (arith, c.loop-below.invariant.0, c.loop-below.invariant.1, c.requires)

pub returns-then-passed-place-clause-only : goal.returns-then-passed-place-clause-only
returns-then-passed-place-clause-only c = λ other at.
    place-only c.args.self.now.values c.args.place other c.in-Some.thread c.holder.ensures.distinct
    at (record {
      within = c.in-Some.ensures.some.within;
      greater =
          ap (λ x. count_by (nat_lt x) c.args.self.now.values) c.in-Some.ensures.some.has
          ∙ sym c.loop-below.invariant.1 ∙ c.if-passed-place.true;
    })

pub loop-below-preserved : goal.loop-below-preserved
loop-below-preserved c =
    let value = c.greatest-greatest.result - c.loop-below.below in
    let next = c.greatest-greatest.result - (c.loop-below.below + 1) in
    let down : value ≡ suc next = omega (arith, c.loop-below-test.true) in
    elim c.match-holder.branch [
      | in-Some+else-passed-place w ↦
          let more = above-more c.args.self.now.values value next w.in-Some.thread down
          c.holder.ensures.distinct w.in-Some.ensures.some in
          (omega (arith, w.passed-is, c.loop-below.invariant.0), omega (arith, w.passed-is))
      | in_default w ↦
          let same = above-same c.args.self.now.values value next down
          (w.in_default.ensures.none refl) in (
            omega (arith, w.passed-is, c.loop-below.invariant.0),
            w.passed-is ∙ c.loop-below.invariant.1 ∙ sym same,
          )
    ]
