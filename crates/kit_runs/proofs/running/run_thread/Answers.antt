use Rattle.std.proofs.Common.{ℕ, ◌∙◌}
use Rattle.body_kit.proofs.Laws.{same-locks, same-threads}
use Rattle.kit_runs.proofs.running.run_thread.Goals as goal

pub returns-clause-of : goal.returns-clause-of
returns-clause-of g c =
    same-locks c.args.kit.now c.port-port.result c.end.result (c.end.ensures.home ∙ c.run.ensures)
    c.port-port.ensures.of.1

pub returns-clause-serves : goal.returns-clause-serves
returns-clause-serves g c =
    let t : ℕ = c.args.thread in
    same-threads c.port-port.result c.end.result t (c.end.ensures.home ∙ c.run.ensures)
    c.port-port.ensures.own
