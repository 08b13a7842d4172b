use Rattle.std.proofs.Common.{◌≡◌, subst}
use Rattle.std.specs.Prelude.{IfOk}
use Rattle.pct_ask.specs.NameLists.{NameLists}
use Rattle.report_text.specs.SweepJson.{sweep_json_of}
use Rattle.report_text.specs.SweepText.{sweep_text_of}
use Rattle.pct_top.proofs.commands.sweep_command.write_report.Goals as goal

pub returns-then-json : goal.returns-then-json
returns-then-json c =
    let frame = c.args.frame.now in
    let swept = c.args.swept.now in
    let told = c.args.told.now in
    let P : NameLists → Type 0 = λ names. IfOk c.sweep_json.result (λ report. report.items
    ≡ sweep_json_of frame swept.choices told swept.passed names) in
    rw c.if-json.true (subst P c.names-names.ensures c.sweep_json.ensures.text)

pub returns-else-json : goal.returns-else-json
returns-else-json c =
    let frame = c.args.frame.now in
    let swept = c.args.swept.now in
    let told = c.args.told.now in
    let P : NameLists → Type 0 = λ names. IfOk c.sweep_text.result (λ report. report.items
    ≡ sweep_text_of frame swept.choices told swept.passed names) in
    rw c.if-json.false (subst P c.names-names.ensures c.sweep_text.ensures)
