-- A word is different from the later ones, and these from each other.
use Rattle.std.proofs.Common.{sym, ◌∙◌, ap}
use Rattle.std.specs.Prelude.{not, ◌&&◌}
use Rattle.trace_text.specs.reader.Heads.{are_different}
use Rattle.pct_ask.specs.Pieces.{seen}
use Rattle.trace_text.proofs.HeadWords.{different-first}
use Rattle.trace_text.proofs.head.+are_different.Goals as goal

pub returns-then-not-is_among : goal.returns-then-not-is_among
returns-then-not-is_among t c =
    let first = different-first c.args.words.now c.in-Some.others.now c.in-Some.word.now
    c.is_among.result c.in-Some.ensures.cases.0 c.is_among.ensures in
    c.are_different.ensures ∙ sym (first
    ∙ ap (λ b. not b && are_different (seen c.in-Some.others.now)) c.if-not-is_among.true)

pub returns-else-not-is_among : goal.returns-else-not-is_among
returns-else-not-is_among t c =
    let first = different-first c.args.words.now c.in-Some.others.now c.in-Some.word.now
    c.is_among.result c.in-Some.ensures.cases.0 c.is_among.ensures in
    ap not c.if-not-is_among.false ∙ sym
    (first ∙ ap (λ b. not b && are_different (seen c.in-Some.others.now))
    c.if-not-is_among.false)
