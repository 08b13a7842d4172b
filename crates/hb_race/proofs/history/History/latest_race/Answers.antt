-- The greatest of all four kinds.
use Rattle.std.proofs.Common.{Option, ℕ, subst, sym, ap, ◌∙◌}
use Rattle.hb_race.specs.Lasts.{IsGreatest, NumbersRace, later}
use Rattle.hb_race.proofs.Search.{latest-race}
use Rattle.hb_race.proofs.history.History.latest_race.Goals as goal

pub returns : goal.returns
returns c = λ s access n current has.
    let a = c.latest_of-plain_read.result in
    let b = c.latest_of-plain_write.result in
    let d = c.latest_of-atomic_read.result in
    let e = c.latest_of-atomic_write.result in
    let P : Option ℕ → Type 0 = IsGreatest (NumbersRace s access n) in
    subst P (sym (c.later-3.ensures ∙ ap (λ x. later x c.later-2.result) c.later.ensures
    ∙ ap (later (later a b)) c.later-2.ensures))
    (latest-race s current.lines access n c.args.kind current.accesses a b d e
    (c.latest_of-plain_read.ensures s access n current has)
    (c.latest_of-plain_write.ensures s access n current has)
    (c.latest_of-atomic_read.ensures s access n current has)
    (c.latest_of-atomic_write.ensures s access n current has))
