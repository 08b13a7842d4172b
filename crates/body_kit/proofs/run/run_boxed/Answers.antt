use Rattle.std.proofs.Common.{◌≡◌, Some, length, vec_len, sym, ◌∙◌, rules}
use Rattle.std.proofs.lemmas.Simd.{map-map}
use Rattle.body_kit.specs.declared.error.KitError.TheVariants.{WrongCount, NotAnOrder}
use Rattle.body_kit.proofs.Refusals.{handed-on}
use Rattle.body_kit.proofs.Laws.{boxed-played}
use Rattle.body_kit.proofs.run.run_boxed.Goals as goal

pub returns-in_err-pct-clause-wrong_count : goal.returns-in_err-pct-clause-wrong_count
returns-in_err-pct-clause-wrong_count g c = λ had named.
    let same : vec_len c.args.bodies ≡ length c.args.bodies.items = search rules in
    handed-on c.from_residual.result c.in_err-pct.field-0.0 (WrongCount had named)
    c.from_residual.ensures.1 (rw (c.len.ensures, same) at
    (c.in_err-pct.ensures.wrong_count had named))

pub returns-in_err-pct-clause-not_an_order : goal.returns-in_err-pct-clause-not_an_order
returns-in_err-pct-clause-not_an_order g c = λ at.
    let same : vec_len c.args.bodies ≡ length c.args.bodies.items = search rules in
    handed-on c.from_residual.result c.in_err-pct.field-0.0 (NotAnOrder at)
    c.from_residual.ensures.1 (rw (c.len.ensures, same) at
    (c.in_err-pct.ensures.not_an_order at))

pub run_threads-requires-clause-in_range : goal.run_threads-requires-clause-in_range
run_threads-requires-clause-in_range g c =
    λ κs p. rw (c.in_ok-bodies.ensures, map-map) c.requires.in_range

pub into_whole-requires : goal.into_whole-requires
into_whole-requires g c =
    let r = c.in_ok-played.ensures.run c.args.order.now c.args.points.now
    c.in_ok-pct.ensures.plan in
    (r.verdict, r.ends)

pub returns-clause-run : goal.returns-clause-run
returns-clause-run g c =
    let r = c.in_ok-played.ensures.run c.args.order.now c.args.points.now
    c.in_ok-pct.ensures.plan in
    let is = c.into_whole.ensures in
    let verdict : r.verdict ≡ c.into_whole.result.verdict = let both = r.ends in
    let whole = is.verdict in cc in
    rw (c.in_ok-bodies.ensures, map-map) at r.steps
    ∙ (let events = sym is.events in λ i. Some (events i, verdict i))

pub returns-clause-played : goal.returns-clause-played
returns-clause-played g c =
    let is = c.into_whole.ensures in
    let events = sym is.events in
    let bodies = c.in_ok-bodies.ensures in
    rw (bodies, map-map) at (boxed-played c.args.deal c.args.limit c.in_ok-pct.ensures.plan events
    is.verdict c.in_ok-played.ensures.played)
