-- The step is the first one that races, or one more last access.
use Rattle.std.proofs.Common.{Option, ℕ, subst, sym, ◌∙◌}
use Rattle.hb_race.specs.Lasts.{IsGreatest, NumbersRace}
use Rattle.hb_race.proofs.Notes.{history-found, history-kept}
use Rattle.hb_race.proofs.history.History.add.Goals as goal

pub returns-in-Some : goal.returns-in-Some
returns-in-Some c = λ s kinds n number current known.
    let P : Option ℕ → Type 0 = IsGreatest (NumbersRace s kinds n) in
    history-found s kinds c.args.access.var n c.args.step c.in-Some.first c.args.self.now
    (sym c.is_some.ensures ∙ c.if-is_some.false) number known
    (λ has. subst P c.in-Some.is (c.latest_race.ensures s kinds n current has))

pub returns-in-None : goal.returns-in-None
returns-in-None c = λ s kinds n number current known.
    let P : Option ℕ → Type 0 = IsGreatest (NumbersRace s kinds n) in
    history-kept s kinds c.args.access.var n c.args.step c.args.thread c.args.access.kind
    c.args.clock.now c.args.self.now c.keep.new.self
    (sym c.is_some.ensures ∙ c.if-is_some.false) number current known
    (λ has. subst P c.in-None.is (c.latest_race.ensures s kinds n current has))
    c.keep.ensures
