use Rattle.std.proofs.Common.{refl}
use Rattle.pct_outside.specs.Reading.{texts_of}
use Rattle.pct_top.specs.Outside.{Outside}
use Rattle.pct_top.proofs.Calls.{call_ran, call_said}
use Rattle.pct_top.proofs.top.pct.Goals as goal

pub returns-in-Ok : goal.returns-in-Ok
returns-in-Ok g c =
    let found : Outside = record {
      shelf = g.H.Shelf.told c.args.shelf.now;
      output = g.O.Sink.told c.args.out.now;
      errors = g.E.Sink.told c.args.err.now;
    } in
    let left : Outside = record {
      shelf = g.H.Shelf.told c.answer.new.shelf;
      output = g.O.Sink.told c.answer.new.out;
      errors = g.E.Sink.told c.args.err.now;
    } in
    call_ran (texts_of c.args.words.now) found left c.in-Ok.status refl
    (c.in-Ok.ensures.answers, c.in-Ok.ensures.unread, c.in-Ok.ensures.shelf)
    c.in-Ok.ensures.refused

pub returns-in-Err : goal.returns-in-Err
returns-in-Err g c =
    let found : Outside = record {
      shelf = g.H.Shelf.told c.args.shelf.now;
      output = g.O.Sink.told c.args.out.now;
      errors = g.E.Sink.told c.args.err.now;
    } in
    let left : Outside = record {
      shelf = g.H.Shelf.told c.answer.new.shelf;
      output = g.O.Sink.told c.answer.new.out;
      errors = g.E.Sink.told c.say.new.err;
    } in
    call_said (texts_of c.args.words.now) found left c.status.result c.in-Err.refusal
    c.status.ensures (c.in-Err.ensures.answers, c.in-Err.ensures.unread, c.in-Err.ensures.shelf)
    c.in-Err.ensures.refused c.say.ensures
