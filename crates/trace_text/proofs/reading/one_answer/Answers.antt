use Rattle.trace_text.proofs.OneAnswer.{one-answer}
use Rattle.trace_text.proofs.reading.one_answer.Goals as goal

pub returns : goal.returns
returns c = one-answer
