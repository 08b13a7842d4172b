use Rattle.std.proofs.Common.{take}
use Rattle.script_code.specs.Listing.{listing}
use Rattle.script_run.specs.Batches.{AreRunnersOf}
use Rattle.script_run.proofs.alone.renew.Given as goal

-- the runners so far are those of the first threads
abbrev pub invariant-loop-thread : goal.invariant-loop-thread
invariant-loop-thread l = AreRunnersOf (take l.thread (listing l.code)) l.runners.items
