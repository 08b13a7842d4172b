-- Two words or more make no kind.
use Rattle.std.proofs.Common.{sym, ◌∙◌}
use Rattle.pct_ask.proofs.VerdictWordLemmas.{kind_of-longer}
use Rattle.pct_ask.proofs.verdict_words.read_kind.Goals as goal

pub returns-then-is_some : goal.returns-then-is_some
returns-then-is_some c =
    kind_of-longer c.args.head.now c.args.rest c.in-Some.rest c.cut_word.result.0.now
    c.cut_word.result.1 c.in-Some.is c.cut_word.ensures.words
    (sym c.is_some.ensures ∙ c.if-is_some.true)
