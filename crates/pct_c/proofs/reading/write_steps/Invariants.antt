use Rattle.std.proofs.Common.{take}
use Rattle.c_values.specs.Events.{SayEvents}
use Rattle.pct_c.proofs.reading.write_steps.Given as goal

-- so many steps are written
abbrev pub invariant-loop-place : goal.invariant-loop-place
invariant-loop-place l = SayEvents (take l.place l.numbers) (take l.place l.events)
