use Rattle.std.proofs.Common.{length, refl, ap, ◌∙◌}
use Rattle.std.proofs.lemmas.List.{length-map}
use Rattle.c_tells.specs.Points.{ArePointsOf}
use Rattle.pct_c.proofs.BufferLaws.{fills, fillable}
use Rattle.pct_c.proofs.tells.pct_tell_points.Goals as goal

pub fill-requires : goal.fill-requires
fill-requires c =
    let a = c.args in
    fillable (ArePointsOf a.steps.now a.most a.moments.now (length a.points.now))
    c.points_told-told.result (length a.points.now) c.points_told-told.ensures
    (λ list is. ap length is.points_are ∙ (simp length-map refl ∙ is.whole))

pub returns : goal.returns
returns c =
    let a = c.args in
    fills (ArePointsOf a.steps.now a.most a.moments.now (length a.points.now))
    c.points_told-told.result c.fill.result a.points.now c.fill.new.buffer
    c.points_told-told.ensures c.fill.ensures
