-- A verdict that was read can be written.
use Rattle.pct_ask.proofs.laws.VerdictsRead.{read-written}
use Rattle.test_words.proofs.verdicts.rewritten.Goals as goal

pub write_verdict-requires-clause-whole : goal.write_verdict-requires-clause-whole
write_verdict-requires-clause-whole c =
    let read = c.read_verdict-read in
    (read-written c.args.names.now c.args.text.now read.result c.in-Is.verdict read.ensures.read
    c.in-Is.is).1
