use Rattle.std.proofs.Common.{refl, ◌∙◌}
use Rattle.worker_run.proofs.serving.Serving.take_all_back.Goals as goal

pub loop-played-init : goal.loop-played-init
loop-played-init c = refl

pub loop-played-preserved : goal.loop-played-preserved
loop-played-preserved c = c.take_back.ensures ∙ c.loop-played.invariant
