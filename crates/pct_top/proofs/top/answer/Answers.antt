use Rattle.std.proofs.Common.{◌≡◌, Ok, Some, sym, subst}
use Rattle.pct_outside.specs.Reading.{texts_of}
use Rattle.pct_outside.specs.Told.{ShelfTold, StreamTold}
use Rattle.pct_top.specs.Settings.{SettingsOrWord, settings}
use Rattle.pct_top.specs.Call.{AnswersCall, ReadsNone, with_told}
use Rattle.pct_top.proofs.top.answer.Goals as goal

pub returns-in-Ok-clause-unread : goal.returns-in-Ok-clause-unread
returns-in-Ok-clause-unread g c = λ none files.
    let same : settings (texts_of c.args.words.now) ≡ Ok c.in-Ok.asked =
    c.in-Ok.ensures.settings in
    let shelf : ShelfTold = with_told files (g.H.Shelf.told c.args.shelf.now) in
    let shelf' : ShelfTold = g.H.Shelf.told c.print_settings.new.shelf in
    let out : StreamTold = g.O.Sink.told c.args.out.now in
    let out' : StreamTold = g.O.Sink.told c.print_settings.new.out in
    subst (λ (taken : SettingsOrWord).
    AnswersCall taken shelf shelf' out out' c.print_settings.result)
    (sym same) (c.print_settings.ensures.unread (subst ReadsNone same none) files)
