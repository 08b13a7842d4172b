-- A canonical decimal is text, `parse` reads it, and its number is written as the same text.
use Rattle.std.proofs.Common.{sym, ap, Some, ◌∙◌}
use Rattle.std.proofs.lemmas.Bool.{false≢true}
use Rattle.pct_ask.proofs.NumberLemmas.{number_text-utf8, refused-by-parse, taken-by-parse}
use Rattle.pct_ask.proofs.number.read_number.Goals as goal

pub returns-in_default-clause-every : goal.returns-in_default-clause-every
returns-in_default-clause-every c =
    λ number fits is. absurd (c.in_default.ensures.cases.0
    (number_text-utf8 number c.args.text.now fits is))

pub returns-in_default-parse-clause-every : goal.returns-in_default-parse-clause-every
returns-in_default-parse-clause-every c =
    λ number fits is. absurd (refused-by-parse number c.in-Ok.digits.now c.in_default-parse.field-0
    fits (c.in-Ok.ensures.cases.0 ∙ is) c.in_default-parse.ensures.value.0)

pub returns-then-eq-clause-every : goal.returns-then-eq-clause-every
returns-then-eq-clause-every c =
    λ number fits is.
    let taken = taken-by-parse c.in-Ok-parse.number number c.args.text.now
    c.as_bytes-canonical.result.now c.parse.result fits is c.in-Ok-parse.is
    (rw c.in-Ok.ensures.cases.0 at c.parse.ensures.value.0)
    (c.as_bytes-canonical.ensures.value ∙ c.format.ensures.text) in
    ap (λ n. Some n) taken.0

pub returns-else-eq-clause-every : goal.returns-else-eq-clause-every
returns-else-eq-clause-every c =
    λ number fits is.
    let taken = taken-by-parse c.in-Ok-parse.number number c.args.text.now
    c.as_bytes-canonical.result.now c.parse.result fits is c.in-Ok-parse.is
    (rw c.in-Ok.ensures.cases.0 at c.parse.ensures.value.0)
    (c.as_bytes-canonical.ensures.value ∙ c.format.ensures.text) in
    absurd (false≢true (sym c.if-eq.false ∙ c.eq.ensures ∙ taken.1))
