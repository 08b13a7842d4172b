-- A thread's place is below 64.
use Rattle.pct_ask.proofs.VerdictWordLemmas.{few_threads}
use Rattle.pct_ask.proofs.verdict_words.read_place.Goals as goal

pub returns-clause-few : goal.returns-clause-few
returns-clause-few c =
    few_threads c.args.names.now c.cut_word.result.0.now c.find-thread.result
    c.find-thread.ensures.lawful c.find-thread.ensures.place
