-- A shelf in memory keeps the names of failed reads alone.
use Rattle.std.proofs.Common.{refl}
use Rattle.test_top.proofs.calls.called.Goals as goal

pub returns : goal.returns
returns g c = c.one_failed_read.ensures _ _ _ _ c.pct.ensures refl
