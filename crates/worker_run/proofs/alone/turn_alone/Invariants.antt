use Rattle.std.proofs.Common.{◌≡◌}
use Rattle.worker_run.proofs.alone.turn_alone.Given as goal

-- nothing has changed so far
abbrev pub invariant-loop : goal.invariant-loop
invariant-loop g l = l.book ≡ l.fn.book
