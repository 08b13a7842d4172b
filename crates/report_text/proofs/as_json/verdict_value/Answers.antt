-- A verdict's text is ASCII, and so it is UTF-8.
use Rattle.std.proofs.Common.{◌≡◌, sym, subst}
use Rattle.std.specs.Str.{IsUtf8}
use Rattle.std.proofs.lemmas.Str.{IsUtf8-from_ascii}
use Rattle.pct_ask.specs.VerdictText.{verdict_text}
use Rattle.report_text.proofs.Plain.{verdict-plain, plain-ascii}
use Rattle.report_text.proofs.as_json.verdict_value.Goals as goal

pub unwrap-requires : goal.unwrap-requires
unwrap-requires c =
    let names = c.args.names.now in
    let verdict = c.args.verdict.now in
    let text : c.write_verdict.new.out.items ≡ verdict_text names verdict =
    rw c.new-text.ensures.items at c.in_ok-write_verdict.ensures.written in
    c.from_utf8.ensures.succeeds (subst IsUtf8 (sym text)
    (IsUtf8-from_ascii (verdict_text names verdict)
    (plain-ascii (verdict_text names verdict)
    (verdict-plain names verdict c.count.ensures.lawful c.requires))))
