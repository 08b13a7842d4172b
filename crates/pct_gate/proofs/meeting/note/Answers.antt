use Rattle.std.proofs.Common.{sym, ◌∙◌}
use Rattle.pct_gate.proofs.Meetings.{notes}
use Rattle.pct_gate.proofs.meeting.note.Goals as goal

pub compare_exchange-requires : goal.compare_exchange-requires
compare_exchange-requires c =
    let offer = c.plain-offer.ensures in
    let pen = c.no_pen-pen.ensures in
    let here = sym c.requires.place.book_is in (
      c.requires.place.tracked,
      here,
      pen.0 ∙ here,
      offer.0,
      rw (pen.1, offer.3) (notes c.args.seen.log c.args.mine.now.key c.plain-offer.result.ask
          c.requires.place.guest c.requires.may),
    )
