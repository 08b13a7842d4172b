-- The four lines of a head.
use Rattle.std.proofs.Common.{◌∙◌}
use Rattle.std.proofs.lemmas.Result.{on_ok_weaker}
use Rattle.trace_text.specs.Trace.{head_of}
use Rattle.trace_text.proofs.Written.{head_text}
use Rattle.trace_text.proofs.writing.push_head.Goals as goal

pub returns : goal.returns
returns c =
    on_ok_weaker c.push_limit.result
    (λ written. written ∙ rw (
      c.in_ok-push-2.ensures.items,
      c.in_ok-push_points.ensures,
      c.as_slice-2.ensures,
      c.in_ok-push.ensures.items,
      c.in_ok-push_order.ensures,
      c.as_slice.ensures,
      c.in_ok-push_version.ensures,
    )
    (head_text c.args.names.now (head_of c.args.header.now) c.args.out.now.items))
    c.push_limit.ensures
