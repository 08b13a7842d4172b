-- A thread's name is ASCII, and so it is UTF-8.
use Rattle.std.proofs.Common.{◌≡◌, sym, subst, ◌∙◌}
use Rattle.std.specs.Str.{IsUtf8}
use Rattle.std.proofs.lemmas.Str.{IsUtf8-from_ascii}
use Rattle.pct_ask.specs.VerdictText.{thread_name}
use Rattle.report_text.proofs.Plain.{thread-plain, plain-ascii}
use Rattle.report_text.proofs.sweep_as_json.name_value.Goals as goal

pub unwrap-requires : goal.unwrap-requires
unwrap-requires c =
    let names = c.args.names.now in
    let thread = c.args.thread in
    let text : c.in_ok-text.text.items ≡ thread_name names thread =
    c.in_ok-text.ensures.items ∙ c.name_at.ensures in
    c.from_utf8.ensures.succeeds (subst IsUtf8 (sym text)
    (IsUtf8-from_ascii (thread_name names thread)
    (plain-ascii (thread_name names thread)
    (thread-plain names thread c.count.ensures.lawful c.requires))))
