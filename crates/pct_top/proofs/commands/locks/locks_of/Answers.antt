use Rattle.std.proofs.Common.{List, length, sym, subst, ap, ◌∙◌, arith}
use Rattle.pct_ask.specs.NameLists.{NameLists}
use Rattle.pct_ask.specs.declared.event.Event.{Event}
use Rattle.script_tree.specs.ScriptSeen.{plain_script}
use Rattle.worker_run.specs.Run.{Run}
use Rattle.lock_order.specs.Nestings.{AreEventsInRange}
use Rattle.lock_order.specs.Chosen.{IsChosen}
use Rattle.pct_top.specs.Printed.{printed_text}
use Rattle.pct_top.specs.Runs.{trace_version}
use Rattle.pct_top.specs.commands.Locks.{lock_text}
use Rattle.pct_top.proofs.InRange.{all_in_range}
use Rattle.pct_top.proofs.commands.locks.locks_of.Goals as goal

pub lock_order-requires-clause-in_range : goal.lock_order-requires-clause-in_range
lock_order-requires-clause-in_range g c =
    let test = c.args.test.now in
    let ready = test.is_ready in
    let of = all_in_range (plain_script test.script) test.deal ready.sound ready.is_deal
    (trace_version (plain_script test.script))
    c.in_ok-run.run'.events c.in_ok-run.ensures.known.steps in
    subst (AreEventsInRange test.deal) (sym c.as_slice.ensures) of

pub lock_order-requires-clause-short : goal.lock_order-requires-clause-short
lock_order-requires-clause-short g c =
    omega (arith, c.in_ok-run.ensures.short, ap length c.as_slice.ensures)

pub returns : goal.returns
returns g c =
    let test = c.args.test.now in
    let script = plain_script test.script in
    let ended : Run = (c.in_ok-run.run'.events, c.in_ok-run.run'.verdict) in
    let E : List Event → Type 0 = λ events.
    IsChosen test.deal.mutexes events c.in_ok-report.report in
    let written = c.in_ok-text.ensures
    ∙ ap (λ (names : NameLists). lock_text names c.in_ok-report.report) c.names.ensures in
    let done = c.is_order-done.ensures in (
      ended,
      c.in_ok-run.ensures.run,
      (
        c.in_ok-report.report,
        subst E c.as_slice.ensures c.in_ok-report.ensures.chosen,
        λ i. printed_text (written i) (done i),
      ),
    )
