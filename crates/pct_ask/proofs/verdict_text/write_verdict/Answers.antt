-- What is written is read back.
use Rattle.std.proofs.lemmas.Result.{on_ok_weaker}
use Rattle.pct_ask.proofs.laws.VerdictsRead.{ReadsAs-written}
use Rattle.pct_ask.proofs.verdict_text.write_verdict.Goals as goal

pub returns-else-is_err-clause-read_back : goal.returns-else-is_err-clause-read_back
returns-else-is_err-clause-read_back c =
    on_ok_weaker c.push_verdict-written.result
    (λ rises. ReadsAs-written c.args.names.now c.args.verdict.now c.count.ensures.lawful
    c.requires.named c.requires.whole rises) c.push_verdict-written.ensures.rising
