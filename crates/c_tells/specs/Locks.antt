-- The order in which a run takes mutexes, as numbers (this project).
use Rattle.std.specs.Prelude.{◌≡◌, ℤ, List, map}
use Rattle.pct_ask.specs.declared.deal.Deal.{Deal}
use Rattle.pct_ask.specs.declared.event.Event.{Event}
use Rattle.lock_order.specs.declared.nesting.Nesting.{Nesting}
use Rattle.lock_order.specs.declared.report.LockReport.{LockReport}
use Rattle.lock_order.specs.declared.report.LockReport.TheVariants.{Order as OfOrder}
use Rattle.lock_order.specs.declared.report.LockReport.TheVariants.{Cycle as OfCycle}
use Rattle.lock_order.specs.Chosen.{IsChosen}
use Rattle.c_values.specs.declared.deal.PctDeal.{PctDeal}
use Rattle.c_values.specs.declared.event.PctEvent.{PctEvent}
use Rattle.c_tells.specs.declared.locks.LocksTold.{LocksTold}
use Rattle.c_tells.specs.declared.locks.LocksTold.TheVariants.{Order, Cycle}
use Rattle.c_tells.specs.declared.locks.PctNesting.{PctNesting}
use Rattle.c_tells.specs.Runs.{SayRun}

-- the numbers of a nesting
abbrev pub nesting_numbers : Nesting → PctNesting
nesting_numbers nesting = record {
  step = nesting.step;
  thread = nesting.thread;
  held = nesting.held;
  taken = nesting.taken;
}

-- what is told of a report
abbrev pub locks_of : LockReport → LocksTold
locks_of (OfOrder mutexes) = Order mutexes
locks_of (OfCycle nestings) = Cycle (map nesting_numbers nestings)

-- the report on the run of these steps
pub record AreLocksOf (counts : PctDeal) (vars sems barriers : List ℤ) (steps : List PctEvent)
    (told : LocksTold) : Type 0 where
  pub deal : Deal
  pub events : List Event
  pub run : SayRun counts vars sems barriers steps deal events
  pub report : LockReport
  pub chosen : IsChosen deal.mutexes events report
  pub told_is : told ≡ locks_of report
