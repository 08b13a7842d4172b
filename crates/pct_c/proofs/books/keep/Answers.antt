-- The handle has what was made.
use Rattle.std.proofs.Common.{Some, ap, ◌∙◌}
use Rattle.pct_c.proofs.books.keep.Goals as goal

pub returns-in-Ok-clause-done : goal.returns-in-Ok-clause-done
returns-in-Ok-clause-done c = λ z. (
  c.in-Ok-Some.book,
  (let a = c.in-Ok-Some.is in let b = c.in-Ok-Some.field-0-is in cc),
  c.of.ensures ∙ ap Some c.in-Ok.ensures.ok,
)
