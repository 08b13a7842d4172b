use Rattle.std.proofs.Common.{take}
use Rattle.pct_top.specs.commands.Campaign.{frame_of}
use Rattle.pct_top.specs.commands.Sweep.{AreGroupsTold}
use Rattle.pct_top.proofs.commands.sweep_command.SweepJob.told_groups.Given as goal

abbrev pub invariant-loop-group : goal.invariant-loop-group
invariant-loop-group l =
    AreGroupsTold (frame_of l.deal l.self.depth l.steps l.self.limit) (take l.group-index l.groups)
    l.told.items
