-- No other number of words makes a step.
use Rattle.std.proofs.Common.{sym, arith}
use Rattle.trace_text.proofs.Ends.{step_of_words-other}
use Rattle.trace_text.proofs.row.read_step.Goals as goal

pub returns-else-words-eq9 : goal.returns-else-words-eq9
returns-else-words-eq9 c =
    sym (step_of_words-other c.args.names.now c.args.version c.args.words.now (λ e. omega arith)
    (λ e. omega arith) (λ e. omega arith) (λ e. omega arith))
