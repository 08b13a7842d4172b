use Rattle.std.proofs.Common.{sym, ◌∙◌}
use Rattle.script_parse.proofs.Places.{places_same, places_more}
use Rattle.script_parse.proofs.ahead.note_place.Goals as goal

pub returns-then-contains_key : goal.returns-then-contains_key
returns-then-contains_key c = λ names counted known.
    places_same c.args.places.now c.args.name.now names known
    (sym c.contains_key.ensures ∙ c.if-contains_key.true)

pub returns : goal.returns
returns c = λ names counted known.
    places_more c.args.places.now c.insert.new.self c.args.name c.args.place names counted known
    (sym c.contains_key.ensures ∙ c.if-contains_key.false) c.in_ok-insert.ensures.updates
