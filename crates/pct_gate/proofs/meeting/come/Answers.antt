use Rattle.std.proofs.Common.{◌<◌, List, length, ap, sym, subst, ◌∙◌}
use Rattle.pct_gate.specs.declared.happening.Happening.{Happening}
use Rattle.pct_gate.proofs.Meetings.{comes}
use Rattle.pct_gate.proofs.meeting.come.Goals as goal

pub compare_exchange-requires : goal.compare_exchange-requires
compare_exchange-requires c =
    let known = ap (λ s. s.book) c.again-known.ensures in
    let offer = c.plain-offer.ensures in
    let pen = c.no_pen-pen.ensures in
    let here = known ∙ sym c.requires.0.book_is in (
      c.requires.0.tracked,
      here,
      pen.0 ∙ here,
      offer.0,
      rw (pen.1, offer.3) (comes c.again-known.result.log c.args.mine.now.key
          c.plain-offer.result.ask c.requires.0.guest
          (subst (λ (l : List Happening). 0 < length l)
          (sym (ap (λ s. s.log) c.again-known.ensures))
          c.requires.1)),
    )
