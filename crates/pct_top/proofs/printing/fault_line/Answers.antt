use Rattle.std.proofs.Common.{append_assoc}
use Rattle.pct_top.proofs.printing.fault_line.Goals as goal

pub returns : goal.returns
returns c =
    rw (
      c.push_str-5.ensures.bytes,
      c.push_str-4.ensures.bytes,
      c.push_str-3.ensures.bytes,
      c.push_count.ensures.bytes,
      c.push_str-2.ensures.bytes,
      c.push_str.ensures.bytes,
      c.new-line.ensures,
    ) (simp append_assoc)
