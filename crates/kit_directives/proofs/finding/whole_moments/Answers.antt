-- There are no more moments than points.
use Rattle.std.proofs.Common.{length, ap, arith}
use Rattle.turn_book.specs.Posts.{schedule_of}
use Rattle.choices.proofs.laws.FewMoments.{moments-few}
use Rattle.kit_directives.proofs.finding.whole_moments.Goals as goal

pub steps_to-requires-clause-few_moments : goal.steps_to-requires-clause-few_moments
steps_to-requires-clause-few_moments g c κs within =
    let few = moments-few (schedule_of c.as_slice.result.now) c.args.points.now in
    let many = ap length c.in_ok-moments.ensures in
    omega (arith, few, many, ap length c.as_slice-all.ensures, c.requires.few_points)

pub returns-in-Some-clause-few : goal.returns-in-Some-clause-few
returns-in-Some-clause-few g c =
    let few = moments-few (schedule_of c.as_slice.result.now) c.args.points.now in
    omega (arith, few, ap length c.in_ok-moments.ensures, c.requires.few_points)
