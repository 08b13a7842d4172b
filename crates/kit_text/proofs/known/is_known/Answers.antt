use Rattle.std.proofs.Common.{sym, ◌∙◌}
use Rattle.kit_text.proofs.KnownBlocked.{known_stuck, some_place}
use Rattle.kit_text.proofs.known.is_known.Goals as goal

pub returns-then-ne : goal.returns-then-ne
returns-then-ne c =
    let places = c.in-Stuck.blocked in
    let some = some_place places c.new.result c.new.ensures
    (sym c.ne.ensures ∙ c.if-ne.true) in
    let known = known_stuck c.args.names.now c.count-threads.result places c.args.verdict.now
    c.count-threads.ensures.count c.in-Stuck.is some in (
      λ t. known.0 (c.are_known_places.ensures.0 t),
      λ is. c.are_known_places.ensures.1 (known.1 is),
    )
