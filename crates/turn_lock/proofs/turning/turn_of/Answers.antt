use Rattle.std.proofs.Common.{sym, ap, ◌∙◌, rules, w64}
use Rattle.std.proofs.lemmas.Int.{to_z-of_z}
use Rattle.turn_lock.specs.declared.turn.Turn.TheVariants.{Answer, Ended, NotYet, Busy, Over}
use Rattle.turn_lock.proofs.Briefly.{same-turn, has-outcome}
use Rattle.turn_lock.proofs.turning.turn_of.Goals as goal

pub returns-in-Answer : goal.returns-in-Answer
returns-in-Answer c =
    λ turn told is. ap Answer (to_z-of_z w64 c.in-Answer.answer (search rules))
    ∙ same-turn c.args.outcome (Answer c.in-Answer.answer) turn tt told (sym c.in-Answer.is ∙ is)

pub returns-in-Ended : goal.returns-in-Ended
returns-in-Ended c =
    λ turn told is. same-turn c.args.outcome Ended turn tt told (sym c.in-Ended.is ∙ is)

pub returns-in-NotYet : goal.returns-in-NotYet
returns-in-NotYet c =
    λ turn told is. same-turn c.args.outcome (NotYet c.in-NotYet.at c.in-NotYet.because) turn tt
    told (sym c.in-NotYet.is ∙ is)

pub returns-in-Busy : goal.returns-in-Busy
returns-in-Busy c =
    λ turn told is. same-turn c.args.outcome (Busy c.in-Busy.holder) turn tt told
    (sym c.in-Busy.is ∙ is)

pub returns-in-Some : goal.returns-in-Some
returns-in-Some c =
    λ turn told is. same-turn c.args.outcome (Over c.in-Some.outcome) turn c.in-Some.is told
    (sym c.in-Over.is ∙ is)

pub unreachable-requires : goal.unreachable-requires
unreachable-requires c =
    let w = c.requires in
    has-outcome c.args.outcome w.turn w.said (sym w.brief ∙ c.in-Over.is) c.in-None.is
