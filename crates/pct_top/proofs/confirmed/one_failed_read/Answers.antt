use Rattle.pct_top.proofs.FailedReads.{one_failed}
use Rattle.pct_top.proofs.confirmed.one_failed_read.Goals as goal

pub returns : goal.returns
returns c = one_failed
