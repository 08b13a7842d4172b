use Rattle.pct_top.proofs.Counts.{certified_counted}
use Rattle.pct_top.proofs.confirmed.certified_are_counted.Goals as goal

pub returns : goal.returns
returns c = certified_counted
