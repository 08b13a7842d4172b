-- Nine words, each at its place.
use Rattle.trace_text.proofs.Ends.{nine-words}
use Rattle.trace_text.proofs.row.step_on_three.Goals as goal

pub returns : goal.returns
returns c =
    λ long. nine-words c.args.names.now c.args.version c.args.words.now _ c.ask_of_words-ask.result
    c.step_in_words.result long c.ask_of_words-ask.ensures c.step_in_words.ensures
