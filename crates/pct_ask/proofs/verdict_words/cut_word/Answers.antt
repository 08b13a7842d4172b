-- The first word ends at the first space, or is all.
use Rattle.std.proofs.Common.{sym}
use Rattle.std.proofs.lemmas.List.{take_rest}
use Rattle.pct_ask.proofs.laws.Splits.{parts_of-cut, parts_of-whole}
use Rattle.pct_ask.proofs.verdict_words.cut_word.Goals as goal

pub returns-in-Some-clause-words : goal.returns-in-Some-clause-words
returns-in-Some-clause-words c =
    rw take_rest (parts_of-cut 32 c.args.text.now c.in-Some.end (sym c.in-Some.ensures))

pub returns-in-None-clause-words : goal.returns-in-None-clause-words
returns-in-None-clause-words c = parts_of-whole 32 c.args.text.now (sym c.in-None.ensures)
