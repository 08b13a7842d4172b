-- The blocked are those that the bits say.
use Rattle.std.proofs.Common.{Some, ap, ◌∙◌}
use Rattle.pct_ask.specs.Places.{places_from, known_lines}
use Rattle.c_texts.proofs.KnownBlocked.{known_stuck}
use Rattle.c_texts.proofs.SaidVerdicts.{said_stuck}
use Rattle.c_texts.proofs.known.is_known.Goals as goal

pub returns-in-Stuck : goal.returns-in-Stuck
returns-in-Stuck c =
    let n = c.args.numbers.now in
    let places = c.in-Stuck._blocked in
    let said = said_stuck n places (c.requires ∙ ap (λ v. Some v) c.in-Stuck.is) in
    let known = known_stuck c.args.names.now c.count-threads.result places
    (places_from 0 (known_lines n.blocked n.lines)) c.args.verdict.now
    c.count-threads.ensures.count c.in-Stuck.is said in (
      λ t. known.0 (c.is_known_stuck.ensures.0 t),
      λ is. c.is_known_stuck.ensures.1 (known.1 is),
    )
