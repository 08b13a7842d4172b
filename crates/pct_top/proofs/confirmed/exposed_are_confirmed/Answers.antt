use Rattle.pct_top.proofs.Confirms.{exposed_confirmed}
use Rattle.pct_top.proofs.confirmed.exposed_are_confirmed.Goals as goal

pub returns : goal.returns
returns c = exposed_confirmed
