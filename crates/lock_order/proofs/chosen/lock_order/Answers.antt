use Rattle.lock_order.specs.declared.report.LockReport.TheVariants.{Order, Cycle}
use Rattle.lock_order.proofs.Cycles.{never-both}
use Rattle.lock_order.proofs.Laws.{chosen-once}
use Rattle.lock_order.proofs.Reports.{chosen-good, chosen-cycle-good, order-chosen}
use Rattle.lock_order.proofs.Reports.{cycle-where-none, chosen-from-sets}
use Rattle.lock_order.proofs.chosen.lock_order.Goals as goal

pub returns-in_err-held-clause-apart : goal.returns-in_err-held-clause-apart
returns-in_err-held-clause-apart c =
    λ order cycle. never-both c.args.deal.now.mutexes c.args.events.now order cycle

pub returns-in_err-out-clause-apart : goal.returns-in_err-out-clause-apart
returns-in_err-out-clause-apart c =
    λ order cycle. never-both c.args.deal.now.mutexes c.args.events.now order cycle

pub returns-in_err-cycle-in-Some-clause-apart : goal.returns-in_err-cycle-in-Some-clause-apart
returns-in_err-cycle-in-Some-clause-apart c =
    λ order cycle. never-both c.args.deal.now.mutexes c.args.events.now order cycle

pub returns-in-None-clause-apart : goal.returns-in-None-clause-apart
returns-in-None-clause-apart c =
    λ order cycle. never-both c.args.deal.now.mutexes c.args.events.now order cycle

pub returns-clause-apart : goal.returns-clause-apart
returns-clause-apart c =
    λ order cycle. never-both c.args.deal.now.mutexes c.args.events.now order cycle

pub returns-in-None-clause-chosen : goal.returns-in-None-clause-chosen
returns-in-None-clause-chosen c =
    order-chosen c.args.deal.now.mutexes c.args.events.now c.in_ok-out.out.items c.from_vec.result
    c.in_ok-out.remaining c.from_vec.ensures c.in_ok-out.ensures.remaining
    (c.in_ok-out.ensures.taken_out c.args.events.now c.nested_sets-nested.ensures) c.in-None.ensures

pub returns-in-None-clause-good : goal.returns-in-None-clause-good
returns-in-None-clause-good c =
    chosen-good c.args.deal.now c.args.events.now c.requires.in_range (Order c.from_vec.result)
    (order-chosen c.args.deal.now.mutexes c.args.events.now c.in_ok-out.out.items c.from_vec.result
    c.in_ok-out.remaining c.from_vec.ensures c.in_ok-out.ensures.remaining
    (c.in_ok-out.ensures.taken_out c.args.events.now c.nested_sets-nested.ensures)
    c.in-None.ensures)

pub returns-in-None-clause-cycle : goal.returns-in-None-clause-cycle
returns-in-None-clause-cycle c =
    cycle-where-none c.args.deal.now.mutexes c.args.events.now (Order c.from_vec.result)
    (chosen-good c.args.deal.now c.args.events.now c.requires.in_range (Order c.from_vec.result)
    (order-chosen c.args.deal.now.mutexes c.args.events.now c.in_ok-out.out.items c.from_vec.result
    c.in_ok-out.remaining c.from_vec.ensures c.in_ok-out.ensures.remaining
    (c.in_ok-out.ensures.taken_out c.args.events.now c.nested_sets-nested.ensures)
    c.in-None.ensures))

pub returns-clause-chosen : goal.returns-clause-chosen
returns-clause-chosen c =
    chosen-from-sets c.args.deal.now.mutexes c.args.events.now c.nested_sets-nested.result
    c.nested_sets-nested.ensures c.in_ok-out.out.items c.in_ok-out.remaining
    c.in_ok-out.ensures.remaining c.in_ok-cycle-in-Some.field-0
    (c.in_ok-out.ensures.taken_out c.args.events.now c.nested_sets-nested.ensures)
    c.in_ok-cycle-in-Some.ensures

pub returns-clause-good : goal.returns-clause-good
returns-clause-good c =
    chosen-cycle-good c.args.deal.now.mutexes c.args.events.now c.in_ok-cycle-in-Some.field-0
    (chosen-from-sets c.args.deal.now.mutexes c.args.events.now c.nested_sets-nested.result
    c.nested_sets-nested.ensures c.in_ok-out.out.items c.in_ok-out.remaining
    c.in_ok-out.ensures.remaining c.in_ok-cycle-in-Some.field-0
    (c.in_ok-out.ensures.taken_out c.args.events.now c.nested_sets-nested.ensures)
    c.in_ok-cycle-in-Some.ensures)

pub returns-clause-cycle : goal.returns-clause-cycle
returns-clause-cycle c =
    cycle-where-none c.args.deal.now.mutexes c.args.events.now (Cycle c.in_ok-cycle-in-Some.field-0)
    (chosen-cycle-good c.args.deal.now.mutexes c.args.events.now c.in_ok-cycle-in-Some.field-0
    (chosen-from-sets c.args.deal.now.mutexes c.args.events.now c.nested_sets-nested.result
    c.nested_sets-nested.ensures c.in_ok-out.out.items c.in_ok-out.remaining
    c.in_ok-out.ensures.remaining c.in_ok-cycle-in-Some.field-0
    (c.in_ok-out.ensures.taken_out c.args.events.now c.nested_sets-nested.ensures)
    c.in_ok-cycle-in-Some.ensures))

pub returns-in_err-held-clause-only : goal.returns-in_err-held-clause-only
returns-in_err-held-clause-only c = chosen-once c.args.deal.now.mutexes c.args.events.now

pub returns-in_err-out-clause-only : goal.returns-in_err-out-clause-only
returns-in_err-out-clause-only c = chosen-once c.args.deal.now.mutexes c.args.events.now

pub returns-in_err-cycle-in-Some-clause-only : goal.returns-in_err-cycle-in-Some-clause-only
returns-in_err-cycle-in-Some-clause-only c = chosen-once c.args.deal.now.mutexes c.args.events.now

pub returns-in-None-clause-only : goal.returns-in-None-clause-only
returns-in-None-clause-only c = chosen-once c.args.deal.now.mutexes c.args.events.now

pub returns-clause-only : goal.returns-clause-only
returns-clause-only c = chosen-once c.args.deal.now.mutexes c.args.events.now
