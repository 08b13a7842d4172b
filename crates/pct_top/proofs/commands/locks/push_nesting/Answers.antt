use Rattle.std.specs.Prelude.{codes, decimal}
use Rattle.pct_ask.specs.VerdictText.{thread_name}
use Rattle.pct_ask.specs.TraceText.{name_at}
use Rattle.pct_top.proofs.Spaced.{line-of-five}
use Rattle.pct_top.proofs.commands.locks.push_nesting.Goals as goal

pub returns : goal.returns
returns c =
    let names = c.args.names.now in
    let nesting = c.args.nesting.now in
    rw (
      c.in_ok-push.ensures.items,
      c.in_ok-write_spaced_word-3.ensures.written,
      c.name_at-3.ensures,
      c.in_ok-write_spaced_word-2.ensures.written,
      c.name_at-2.ensures,
      c.in_ok-write_spaced_word.ensures.written,
      c.name_at.ensures,
      c.in_ok-push_number.ensures,
      c.in_ok-extend_from_slice.ensures.items,
    )
    (line-of-five c.args.out.now.items (codes "nest") (decimal nesting.step)
    (thread_name names nesting.thread) (name_at names.mutexes nesting.held)
    (name_at names.mutexes nesting.taken))
