-- Only the variable that the step accesses has a new history.
use Rattle.hb_race.proofs.Steps.{noted-none, noted-some}
use Rattle.hb_race.proofs.report.note.Goals as goal

pub returns-in-Some-clause-noted : goal.returns-in-Some-clause-noted
returns-in-Some-clause-noted c = λ events n noted are.
    noted-some events n c.args.access c.in-Some.access c.args.step c.args.thread c.args.clock.now
    c.args.histories.now c.add.new.self noted c.in-Some.is
    (c.requires.var c.in-Some.access c.in-Some.is) c.add.ensures are

pub returns-in_default-clause-noted : goal.returns-in_default-clause-noted
returns-in_default-clause-noted c = λ events n noted are.
    noted-none events n c.args.access c.args.step c.args.thread c.args.clock.now
    c.args.histories.now noted c.in_default.is are
