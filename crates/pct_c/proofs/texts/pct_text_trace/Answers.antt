use Rattle.trace_text.specs.Known.{head_by}
use Rattle.c_texts.specs.Traces.{IsTraceText}
use Rattle.pct_c.proofs.BufferLaws.{puts}
use Rattle.pct_c.proofs.texts.pct_text_trace.Goals as goal

pub returns : goal.returns
returns c =
    let a = c.args in
    puts (IsTraceText a.names.now (head_by a.version a.limit a.order.now a.points.now) a.steps.now
    a.verdict.now)
    c.trace_text_told-told.result c.put.result.status c.put.result.count a.text.now c.put.new.buffer
    c.trace_text_told-told.ensures c.put.ensures
