use Rattle.std.proofs.Common.{◌<◌, length, sym, arith}
use Rattle.script_code.proofs.Pieces.{from_more}
use Rattle.script_code.proofs.emit.entry.Goals as goal

pub returns-then-first-len : goal.returns-then-first-len
returns-then-first-len c =
    let below : c.args.first < length c.args.body.now.stmts.items =
    omega (arith, c.len.ensures, c.args.body.now.stmts.ok) in
    sym (from_more c.args.body.now c.args.first c.args.at c.args.next below)
