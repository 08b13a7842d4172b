use Rattle.c_texts.specs.Reports.{IsReportJson}
use Rattle.pct_c.proofs.BufferLaws.{puts}
use Rattle.pct_c.proofs.texts.pct_text_report_json.Goals as goal

pub returns : goal.returns
returns c =
    let a = c.args in
    puts (IsReportJson a.names.now a.frame.now a.rows.now) c.report_json_told-told.result
    c.put.result.status c.put.result.count a.text.now c.put.new.buffer
    c.report_json_told-told.ensures
    c.put.ensures
