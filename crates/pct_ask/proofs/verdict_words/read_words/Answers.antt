-- More words than one are read by the first.
use Rattle.std.proofs.Common.{sym, ◌∙◌}
use Rattle.pct_ask.proofs.VerdictWordLemmas.{read-stuck, read-placed}
use Rattle.pct_ask.proofs.verdict_words.read_words.Goals as goal

pub returns-in-Some-clause-words : goal.returns-in-Some-clause-words
returns-in-Some-clause-words c =
    c.read_stuck.ensures ∙ sym (read-stuck c.args.names.now c.args.text.now c.cut_word.result.0.now
    c.in-Some.rest c.cut_word.result.1 c.in-Some.is c.cut_word.ensures.words
    (sym c.eq.ensures ∙ c.if-eq.true))

pub returns-in-Some-2-clause-words : goal.returns-in-Some-2-clause-words
returns-in-Some-2-clause-words c =
    c.read_placed.ensures ∙ sym (read-placed c.args.names.now c.args.text.now
    c.cut_word.result.0.now c.in-Some-2.rest c.cut_word.result.1 c.in-Some-2.is
    c.cut_word.ensures.words (sym c.eq.ensures ∙ c.if-eq.false))
