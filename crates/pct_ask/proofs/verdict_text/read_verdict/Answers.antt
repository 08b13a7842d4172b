-- What the words are read as is what the text is read as, and nothing else is.
use Rattle.std.proofs.Common.{◌∙◌}
use Rattle.pct_ask.proofs.laws.VerdictsRead.{ReadsAs-words, ReadsAs-only}
use Rattle.pct_ask.proofs.verdict_text.read_verdict.Goals as goal

pub returns-clause-read : goal.returns-clause-read
returns-clause-read c =
    rw c.read_words.ensures.words (ReadsAs-words c.args.names.now c.args.text.now)

pub returns-clause-only : goal.returns-clause-only
returns-clause-only c =
    λ other reads. c.read_words.ensures.words
    ∙ ReadsAs-only c.args.names.now c.args.text.now other c.read_words.ensures.lawful reads
