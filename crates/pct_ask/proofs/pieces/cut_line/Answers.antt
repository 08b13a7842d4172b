-- The first line ends at the first LF, or is all.
use Rattle.std.proofs.Common.{sym}
use Rattle.std.proofs.lemmas.List.{take_rest}
use Rattle.pct_ask.proofs.laws.Splits.{parts_of-cut, parts_of-whole}
use Rattle.pct_ask.proofs.pieces.cut_line.Goals as goal

pub returns-in-Some-clause-pieces : goal.returns-in-Some-clause-pieces
returns-in-Some-clause-pieces c =
    rw take_rest (parts_of-cut 10 c.args.text.now c.in-Some.end (sym c.in-Some.ensures))

pub returns-in-None-clause-pieces : goal.returns-in-None-clause-pieces
returns-in-None-clause-pieces c = parts_of-whole 10 c.args.text.now (sym c.in-None.ensures)
