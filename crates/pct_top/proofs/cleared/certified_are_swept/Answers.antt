use Rattle.pct_top.proofs.Clears.{certified_swept}
use Rattle.pct_top.proofs.cleared.certified_are_swept.Goals as goal

pub returns : goal.returns
returns c = certified_swept
