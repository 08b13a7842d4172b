-- The first line ends at the first LF, or is all.
use Rattle.std.proofs.Common.{sym}
use Rattle.std.proofs.lemmas.List.{take_rest}
use Rattle.pct_ask.proofs.LineLemmas.{lines_of-cut, lines_of-whole}
use Rattle.pct_ask.proofs.line.first_line.Goals as goal

pub returns-in-Some : goal.returns-in-Some
returns-in-Some c =
    rw take_rest (lines_of-cut c.args.text.now c.in-Some.end (sym c.in-Some.ensures))

pub returns-in-None : goal.returns-in-None
returns-in-None c = lines_of-whole c.args.text.now c.requires (sym c.in-None.ensures)
