use Rattle.std.proofs.Common.{◌≡◌, true}
use Rattle.hb_race.proofs.Laws.{edge-before, before-transitive, before-least, races-unique}
use Rattle.hb_race.proofs.order.one_list_of_races.Goals as goal

pub returns-clause-edges : goal.returns-clause-edges
returns-clause-edges c = λ events. (edge-before events, before-transitive events)

pub returns-clause-least : goal.returns-clause-least
returns-clause-least c =
    λ events relates. before-least events (λ first last. relates first last ≡ true)

pub returns-clause-races : goal.returns-clause-races
returns-clause-races c = races-unique
