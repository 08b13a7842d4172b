use Rattle.std.proofs.Common.{Bool, Ok, Err, Some, sym, subst}
use Rattle.std.proofs.lemmas.Result.{err_from_is_err_and}
use Rattle.pct_outside.specs.Told.{ShelfTold, StreamTold}
use Rattle.pct_top.specs.Output.{OfTaken}
use Rattle.pct_top.specs.CommandOutput.{printed_of}
use Rattle.pct_top.specs.Call.{ReadFailed, LeavesShelf, with_told}
use Rattle.pct_top.proofs.Comes.{told_comes}
use Rattle.pct_top.proofs.Shelves.{put_is_read}
use Rattle.pct_top.proofs.Calls.{answers_refused, answers_put}
use Rattle.pct_top.proofs.top.print_settings.Goals as goal

pub returns-in_err-output-clause-answers : goal.returns-in_err-output-clause-answers
returns-in_err-output-clause-answers g c =
    let shelf : ShelfTold = g.H.Shelf.told c.args.shelf.now in
    let shelf' : ShelfTold = g.H.Shelf.told c.output_of.new.shelf in
    let out : StreamTold = g.O.Sink.told c.args.out.now in
    let p = err_from_is_err_and c.from_residual.result c.from_residual.ensures.1 in
    rw (p.1, p.2) (answers_refused (Ok c.args.settings) shelf shelf' out
    c.in_err-output.field-0.0 c.in_err-output.ensures.comes)

pub returns-clause-answers : goal.returns-clause-answers
returns-clause-answers g c =
    let shelf : ShelfTold = g.H.Shelf.told c.args.shelf.now in
    let shelf' : ShelfTold = g.H.Shelf.told c.output_of.new.shelf in
    let out : StreamTold = g.O.Sink.told c.args.out.now in
    let out' : StreamTold = g.O.Sink.told c.put_output.new.out in
    answers_put (Ok c.args.settings) shelf shelf' out out' c.in_ok-output.output c.put_output.result
    c.in_ok-output.ensures.comes c.put_output.ensures

pub returns-in_err-output-clause-unread : goal.returns-in_err-output-clause-unread
returns-in_err-output-clause-unread g c = λ none files.
    let shelf : ShelfTold = with_told files (g.H.Shelf.told c.args.shelf.now) in
    let shelf' : ShelfTold = g.H.Shelf.told c.output_of.new.shelf in
    let out : StreamTold = g.O.Sink.told c.args.out.now in
    let p = err_from_is_err_and c.from_residual.result c.from_residual.ensures.1 in
    rw (p.1, p.2) (answers_refused (Ok c.args.settings) shelf shelf' out
    c.in_err-output.field-0.0
    (told_comes (OfTaken (Ok c.args.settings)) files
    (ReadFailed (Ok c.args.settings) shelf shelf')
    (Err c.in_err-output.field-0.0) (c.in_err-output.ensures.unread none files)))

pub returns-clause-unread : goal.returns-clause-unread
returns-clause-unread g c = λ none files.
    let shelf : ShelfTold = with_told files (g.H.Shelf.told c.args.shelf.now) in
    let shelf' : ShelfTold = g.H.Shelf.told c.output_of.new.shelf in
    let out : StreamTold = g.O.Sink.told c.args.out.now in
    let out' : StreamTold = g.O.Sink.told c.put_output.new.out in
    answers_put (Ok c.args.settings) shelf shelf' out out' c.in_ok-output.output c.put_output.result
    (told_comes (OfTaken (Ok c.args.settings)) files
    (ReadFailed (Ok c.args.settings) shelf shelf')
    (Ok c.in_ok-output.output) (c.in_ok-output.ensures.unread none files)) c.put_output.ensures

pub returns-in_err-output-clause-shelf : goal.returns-in_err-output-clause-shelf
returns-in_err-output-clause-shelf g c =
    let p = err_from_is_err_and c.from_residual.result c.from_residual.ensures.1 in
    rw (p.1, p.2) c.in_err-output.ensures.shelf

pub returns-clause-shelf : goal.returns-clause-shelf
returns-clause-shelf g c =
    let shelf : ShelfTold = g.H.Shelf.told c.args.shelf.now in
    let shelf' : ShelfTold = g.H.Shelf.told c.output_of.new.shelf in
    let out : StreamTold = g.O.Sink.told c.args.out.now in
    let out' : StreamTold = g.O.Sink.told c.put_output.new.out in
    subst (λ (unread : Bool). LeavesShelf (Ok c.args.settings) unread shelf shelf')
    (sym (put_is_read (printed_of c.in_ok-output.output) out out' c.put_output.result
    c.put_output.ensures))
    c.in_ok-output.ensures.shelf
