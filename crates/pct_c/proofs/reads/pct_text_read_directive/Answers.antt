-- What was read is written as numbers.
use Rattle.std.proofs.Common.{arith, inl}
use Rattle.pct_c.proofs.reads.pct_text_read_directive.Goals as goal

pub returns-in-Ok : goal.returns-in-Ok
returns-in-Ok c = record {
  done = λ h. (c.in-Ok.told, c.in-Ok.ensures, c.numbers_of_directive.ensures);
  bad = λ h. absurd (omega (arith, h, c.read_to.ensures.status));
  statuses = inl c.read_to.ensures.status;
  unwritten = λ h. absurd (h c.read_to.ensures.status);
}
