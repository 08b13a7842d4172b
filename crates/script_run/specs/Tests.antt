-- What is known of the runs of a test (this project).
use Rattle.pct_ask.specs.Bodies.{Pending}
use Rattle.policy_pick.specs.Plan.{Plan}
use Rattle.worker_run.specs.Tests.{IsRunOf}
use Rattle.worker_run.specs.declared.batch.Test.{Test}
use Rattle.worker_run.specs.declared.played.Played.{Played}

-- every run of the test is so
abbrev pub Tries : {P B : Type 0} → (B → Pending) → (P → Plan) → (Played → Type 0) → Test P B
    → Type 0
Tries pending plan IsSo test = (played : Played) → IsRunOf pending plan test played → IsSo played
