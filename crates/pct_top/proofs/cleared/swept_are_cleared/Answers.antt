use Rattle.pct_top.proofs.Clears.{swept_cleared}
use Rattle.pct_top.proofs.cleared.swept_are_cleared.Goals as goal

pub returns : goal.returns
returns c = swept_cleared
