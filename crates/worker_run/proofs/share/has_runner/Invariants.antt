use Rattle.std.proofs.Common.{◌≡◌, ◌<◌, ℕ, None}
use Rattle.worker_run.specs.Served.{runner_at}
use Rattle.worker_run.proofs.share.has_runner.Given as goal

abbrev pub invariant-loop-at : goal.invariant-loop-at
invariant-loop-at g l = (index : ℕ) → index < l.at → runner_at l.runners index ≡ None
