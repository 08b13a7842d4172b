use Rattle.std.proofs.Common.{Option, IfSome, refl, subst}
use Rattle.turn_lock.specs.Calls.{first_book}
use Rattle.worker_run.specs.declared.by_order.WholeRun.{WholeRun}
use Rattle.kit_runs.specs.Runs.{IsRunOfBook}
use Rattle.kit_runs.proofs.running.run_kit.Goals as goal

pub returns-in-Some-clause-run : goal.returns-in-Some-clause-run
returns-in-Some-clause-run g c =
    let P : WholeRun → Type 0 = λ w.
    IsRunOfBook (first_book c.args.opened.0) w.events w.verdict in
    (subst (λ (o : Option WholeRun). IfSome o P) c.in-Some.is c.play.ensures, refl)
