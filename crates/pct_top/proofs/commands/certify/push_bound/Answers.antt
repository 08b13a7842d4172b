use Rattle.std.proofs.Common.{append_assoc}
use Rattle.pct_top.proofs.commands.certify.push_bound.Goals as goal

pub returns : goal.returns
returns c =
    rw (
      c.in_ok-push.ensures.items,
      c.in_ok-extend_from_slice-2.ensures.items,
      c.as_bytes.ensures.value,
      c.format.ensures.text,
      c.in_ok-extend_from_slice.ensures.items,
    )
    (simp append_assoc)
