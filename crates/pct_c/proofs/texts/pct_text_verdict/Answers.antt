use Rattle.c_texts.specs.Verdicts.{SaysVerdictText}
use Rattle.pct_c.proofs.BufferLaws.{puts}
use Rattle.pct_c.proofs.texts.pct_text_verdict.Goals as goal

pub returns : goal.returns
returns c =
    let a = c.args in
    puts (SaysVerdictText a.names.now a.verdict.now)
    c.verdict_text_told-told.result c.put.result.status c.put.result.count a.text.now
    c.put.new.buffer
    c.verdict_text_told-told.ensures c.put.ensures
