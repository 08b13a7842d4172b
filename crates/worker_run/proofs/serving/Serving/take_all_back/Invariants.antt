use Rattle.std.proofs.Common.{◌≡◌}
use Rattle.worker_run.proofs.serving.Serving.take_all_back.Given as goal

-- who serves stays the same
abbrev pub invariant-loop-played : goal.invariant-loop-played
invariant-loop-played l = l.self.by ≡ l.initial.self.by
