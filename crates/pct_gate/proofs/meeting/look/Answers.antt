use Rattle.std.proofs.Common.{◌-◌, List, ap, sym, subst}
use Rattle.pct_gate.specs.declared.happening.Happening.{Happening}
use Rattle.pct_gate.specs.declared.happening.Happening.TheVariants.{Came}
use Rattle.pct_gate.specs.Meeting.{HasHappening}
use Rattle.pct_gate.proofs.Meetings.{has_later}
use Rattle.pct_gate.proofs.meeting.look.Goals as goal

pub returns-then-found-ge-CAME-clause-came : goal.returns-then-found-ge-CAME-clause-came
returns-then-found-ge-CAME-clause-came c =
    let came = Came (1 - c.args.theirs.now.key) in
    has_later c.again-seen.result.log c.load-found.new.seen.log came c.load-found.ensures.5
    (subst (λ (l : List Happening). HasHappening l came)
    (sym (ap (λ s. s.log) c.again-seen.ensures))
    c.requires.came)
