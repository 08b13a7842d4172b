use Rattle.sweep.proofs.Counts.{sweeps_counted}
use Rattle.sweep.proofs.counted.sweeps_are_counted.Goals as goal

pub returns : goal.returns
returns c = sweeps_counted
