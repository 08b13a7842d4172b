use Rattle.script_run.proofs.Places.{one-ran}
use Rattle.script_run.proofs.running.run_test.Goals as goal

pub returns-in-Threads : goal.returns-in-Threads
returns-in-Threads g c =
    let ran = c.run_threads.ensures in
    one-ran g.B.Body.pending g.P.Policy.plan c.args.test c.steps-steps.result c.run_threads.result
    c.steps-steps.ensures.number ran.played ran.run ran.directed

pub returns-in-Caller : goal.returns-in-Caller
returns-in-Caller g c =
    let ran = c.run_here.ensures in
    one-ran g.B.Body.pending g.P.Policy.plan c.args.test c.steps-steps.result c.run_here.result
    c.steps-steps.ensures.number ran.played ran.run ran.directed
