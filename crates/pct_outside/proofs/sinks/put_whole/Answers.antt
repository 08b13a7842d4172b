-- What is gathered after the piece is written by the finish, or a part of it.
use Rattle.std.proofs.lemmas.Result.{on_ok_weaker, on_err_weaker}
use Rattle.pct_outside.proofs.laws.Puts.{put_finished, put_cut_off}
use Rattle.pct_outside.proofs.sinks.put_whole.Goals as goal

pub returns-in-Ok-clause-whole : goal.returns-in-Ok-clause-whole
returns-in-Ok-clause-whole g c =
    let told = g.S.Sink.told in
    on_ok_weaker c.finish.result
    (put_finished c.args.piece.now (told c.args.sink.now) (told c.put.new.self)
    (told c.finish.new.self) c.in-Ok.ensures.whole) c.finish.ensures.whole

pub returns-in-Ok-clause-part : goal.returns-in-Ok-clause-part
returns-in-Ok-clause-part g c =
    let told = g.S.Sink.told in
    on_err_weaker c.finish.result
    (put_cut_off c.args.piece.now (told c.args.sink.now) (told c.put.new.self)
    (told c.finish.new.self) c.in-Ok.ensures.whole) c.finish.ensures.part
