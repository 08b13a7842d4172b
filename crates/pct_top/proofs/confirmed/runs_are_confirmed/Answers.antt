use Rattle.pct_top.proofs.Confirms.{runs_confirmed}
use Rattle.pct_top.proofs.confirmed.runs_are_confirmed.Goals as goal

pub returns : goal.returns
returns c = runs_confirmed
