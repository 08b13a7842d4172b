use Rattle.std.proofs.Common.{◌≡◌, ◌+◌, [], ◌∷◌, ◌++◌, length, eqb, sym, ap, subst, ◌∙◌, arith}
use Rattle.std.proofs.lemmas.List.{length_push}
use Rattle.rank_now.specs.Positions.{passes_at}
use Rattle.rank_now.specs.Rank.{index_of_point, ranks}
use Rattle.rank_now.proofs.laws.Positions.{greatest-le}
use Rattle.rank_now.proofs.laws.GivenOnce.{ranks-same, ranks-free}
use Rattle.policy_pick.specs.Choice.{choice_by_rank, KeepsChoices}
use Rattle.policy_pick.specs.Kept.{PointsKept, PointsStand, points_plan}
use Rattle.policy_pick.proofs.pct.PctPolicy.took_and_kept.Goals as goal

pub lower-requires-clause-low : goal.lower-requires-clause-low
lower-requires-clause-low c =
    omega (
      arith,
      c.index_of_point-index.ensures,
      c.self.invariant.as_many,
      ap length c.deref.ensures.value,
      greatest-le
          (passes_at (λ point. eqb point (c.self.inside.taken + 1)) c.deref.result.now)
          (length c.deref.result.now),
    )

pub lower-requires-clause-free : goal.lower-requires-clause-free
lower-requires-clause-free c =
    let f = c.self.inside in
    let schedule = c.requires.short.0 in
    let P : PointsKept → Type 0 = λ kept. PointsStand kept schedule in
    let stands = subst P (sym c.self.view_is) c.requires.short.1 in
    let index : c.index_of_point-index.result
    ≡ index_of_point f.points.items (length schedule + 1) =
    c.index_of_point-index.ensures ∙ ap (λ points. index_of_point points (f.taken + 1))
    c.deref.ensures.value ∙ ap (λ taken. index_of_point f.points.items (taken + 1))
    stands.taken in
    ranks-free f.ranks.order f.points.items schedule c.args.thread c.self.invariant.is_order
    f.ranks.values c.index_of_point-index.result c.if-index-gt0.true index stands.values

pub returns-then-index-gt0-clause-stands : goal.returns-then-index-gt0-clause-stands
returns-then-index-gt0-clause-stands c = λ schedule stood.
    let f = c.self.inside in
    let P : PointsKept → Type 0 = λ kept. PointsStand kept schedule in
    let stands = subst P (sym c.self.view_is) stood in
    let index : c.index_of_point-index.result
    ≡ index_of_point f.points.items (length schedule + 1) =
    c.index_of_point-index.ensures ∙ ap (λ points. index_of_point points (f.taken + 1))
    c.deref.ensures.value ∙ ap (λ taken. index_of_point f.points.items (taken + 1))
    stands.taken in
    record {
      taken = omega (arith, stands.taken, length_push schedule c.args.thread);
      values =
          c.lower.ensures.by_points f.ranks.order f.points.items schedule stands.values index
          ∙ ap (λ order. ranks order f.points.items (schedule ++ c.args.thread ∷ []))
          (sym c.lower.ensures.order);
    }

pub returns-else-index-gt0-clause-stands : goal.returns-else-index-gt0-clause-stands
returns-else-index-gt0-clause-stands c = λ schedule stood.
    let f = c.self.inside in
    let P : PointsKept → Type 0 = λ kept. PointsStand kept schedule in
    let stands = subst P (sym c.self.view_is) stood in
    let index : c.index_of_point-index.result
    ≡ index_of_point f.points.items (length schedule + 1) =
    c.index_of_point-index.ensures ∙ ap (λ points. index_of_point points (f.taken + 1))
    c.deref.ensures.value ∙ ap (λ taken. index_of_point f.points.items (taken + 1))
    stands.taken in
    record {
      taken = omega (arith, stands.taken, length_push schedule c.args.thread);
      values =
          stands.values ∙ ranks-same f.ranks.order f.points.items schedule c.args.thread
          (omega (arith, c.if-index-gt0.false, index));
    }

pub returns-else-index-gt0-clause-same : goal.returns-else-index-gt0-clause-same
returns-else-index-gt0-clause-same c = λ kept schedule stood.
    let f = c.self.inside in
    let P : PointsKept → Type 0 = λ kept. PointsStand kept schedule in
    let stands = subst P (sym c.self.view_is) stood in
    let index : c.index_of_point-index.result
    ≡ index_of_point f.points.items (length schedule + 1) =
    c.index_of_point-index.ensures ∙ ap (λ points. index_of_point points (f.taken + 1))
    c.deref.ensures.value ∙ ap (λ taken. index_of_point f.points.items (taken + 1))
    stands.taken in
    let same = ranks-same f.ranks.order f.points.items schedule c.args.thread
    (omega (arith, c.if-index-gt0.false, index)) in
    let K : PointsKept → Type 0 = λ kept. KeepsChoices (points_plan kept) schedule c.args.thread in
    subst K c.self.view_is (λ chances. ap (λ rs. choice_by_rank rs chances) (sym same))
