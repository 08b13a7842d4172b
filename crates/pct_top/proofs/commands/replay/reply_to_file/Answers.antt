use Rattle.std.proofs.Common.{Some, Err, subst}
use Rattle.std.proofs.lemmas.Result.{err_from_is_err_and}
use Rattle.script_tree.specs.ScriptSeen.{plain_script}
use Rattle.pct_top.specs.Files.{Misses, GivesTrace}
use Rattle.pct_top.specs.commands.Replay.{PrintsReply}
use Rattle.pct_top.proofs.Comes.{trace_refused}
use Rattle.pct_top.proofs.commands.replay.reply_to_file.Goals as goal

pub returns-in_err-told-clause-comes : goal.returns-in_err-told-clause-comes
returns-in_err-told-clause-comes g c =
    let test = c.args.test.now in
    let script = plain_script test.script in
    let told = (g.H.Shelf.told c.args.shelf.now).files in
    let missed : Type 0 = Misses (Some c.args.trace.now) (g.H.Shelf.told c.args.shelf.now).failed
    (g.H.Shelf.told c.read_told.new.shelf).failed in
    let refusal = c.in_err-told.field-0.0 in
    let p = err_from_is_err_and c.from_residual.result c.from_residual.ensures.1 in
    rw (p.1, p.2) (trace_refused told c.args.trace.now script.names
    (PrintsReply script test.deal) missed refusal
    (subst (λ names. GivesTrace told c.args.trace.now names missed (Err refusal))
    c.names.ensures c.in_err-told.ensures.told))
