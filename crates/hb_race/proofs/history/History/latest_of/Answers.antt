-- Where the kinds conflict, the last accesses of the earlier kind are searched.
use Rattle.std.proofs.Common.{List, Option, subst, sym, ◌∙◌}
use Rattle.hb_race.specs.declared.history.LastAccess.{LastAccess}
use Rattle.hb_race.specs.Lasts.{IsLatest}
use Rattle.hb_race.proofs.Search.{latest-flagged}
use Rattle.hb_race.proofs.history.History.latest_of.Goals as goal

pub returns-then-conflict : goal.returns-then-conflict
returns-then-conflict c = λ s access n current has.
    let latest = c.latest_untold.result in
    let P : List (Option LastAccess) → Type 0 =
    λ lasts. IsLatest lasts c.args.thread c.args.clock.now 64 latest in
    latest-flagged s access n c.args.first c.args.second c.args.thread c.args.clock.now
    c.args.self.now latest
    (sym c.conflict.ensures ∙ c.if-conflict.true) current has
    (subst P c.lasts.ensures c.latest_untold.ensures)
