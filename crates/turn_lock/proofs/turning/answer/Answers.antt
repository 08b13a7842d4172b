use Rattle.std.proofs.Common.{sym, refl, ◌∙◌, subst}
use Rattle.std.proofs.lemmas.Bool.{false≢true}
use Rattle.turn_lock.specs.Turns.{Row}
use Rattle.turn_lock.specs.Briefs.{InBrief}
use Rattle.turn_lock.specs.declared.brief.Brief.{Brief}
use Rattle.turn_lock.specs.declared.turn.Turn.TheVariants as turns
use Rattle.turn_lock.proofs.Rows.{row-of}
use Rattle.turn_lock.proofs.laws.Standings.{asks-or-ended}
use Rattle.turn_lock.proofs.turning.answer.Goals as goal

pub returns-then-has_ended-clause-row : goal.returns-then-has_ended-clause-row
returns-then-has_ended-clause-row g c =
    let ended = c.has_ended.ensures.0 c.if-has_ended.true in
    record { turn = turns.Ended; brief = refl; said = (ended.0, ended.1, refl) }

pub returns-clause-row : goal.returns-clause-row
returns-clause-row g c =
    let e = c.take_turn.ensures in
    subst (λ (told : Brief). InBrief
    (λ turn. Row c.args.book.now c.args.thread turn c.take_turn.new.self) told)
    (sym c.as_brief.ensures)
    (row-of _ _ _ (λ none. asks-or-ended _ (c.requires.here none)
    (λ ended. false≢true (sym c.if-has_ended.false ∙ c.has_ended.ensures.1 (none, ended)))) _
    e.over e.answer e.not_yet)
