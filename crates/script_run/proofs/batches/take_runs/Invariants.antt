use Rattle.script_run.proofs.batches.take_runs.Given as goal

-- the runs before the place are taken
abbrev pub invariant-loop-place : goal.invariant-loop-place
invariant-loop-place g l = g.T.Batch.stands l.batch l.kept l.place
