-- The name that stands at the thread's place, and the line.
use Rattle.std.proofs.Common.{sym, ap, ◌∙◌}
use Rattle.std.specs.Option.{option_copied}
use Rattle.pct_ask.proofs.PieceLemmas.{place-written}
use Rattle.pct_ask.proofs.verdict_text.push_place.Goals as goal

pub returns-clause-written : goal.returns-clause-written
returns-clause-written c =
    place-written c.args.names.now c.args.thread c.args.line c.args.out.now.items
    c.write_spaced_word.new.out.items c.write_spaced_word-2.new.out.items c.unwrap.result.now
    c.as_bytes.result.now c.write_spaced_word-2.result
    (ap option_copied (sym c.unwrap.ensures) ∙ c.name.ensures.name)
    c.in_ok-write_spaced_word.ensures.written (c.as_bytes.ensures.value ∙ c.format.ensures.text)
    c.write_spaced_word-2.ensures.written
