use Rattle.pct_top.proofs.Takes.{found_taken}
use Rattle.pct_top.proofs.confirmed.found_are_taken_up.Goals as goal

pub returns : goal.returns
returns c = found_taken
