use Rattle.policy_pick.specs.Plan.{ByPoints}
use Rattle.kit_runs.proofs.Laws.{ports-played}
use Rattle.kit_runs.proofs.law.run_of_bodies.Goals as goal

pub returns : goal.returns
returns c deal order points limit file bodies made posts =
    ports-played deal (ByPoints order points) limit file.events file.verdict bodies made.run posts
