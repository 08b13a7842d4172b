-- What is promised of a run over bodies (this project).
use Rattle.std.specs.Prelude.{◌≡◌, ℕ, List, Option, Some}
use Rattle.pct_ask.specs.declared.Deal.{Deal}
use Rattle.pct_ask.specs.declared.event.Event.{Event}
use Rattle.pct_ask.specs.declared.verdict.Verdict.{Verdict}
use Rattle.pct_ask.specs.declared.verdict.Outcome.{Outcome}
use Rattle.pct_ask.specs.declared.verdict.Outcome.TheVariants.{Verdict as Ends}
use Rattle.pct_ask.specs.Bodies.{Pending}
use Rattle.policy_pick.specs.Plan.{Plan}
use Rattle.turn_book.specs.Posts.{source_of}
use Rattle.turn_book.specs.Obeys.{Obeys, outcome_after}
use Rattle.turn_book.specs.Told.{BookState}
use Rattle.worker_run.specs.Bodies.{source_of_bodies}
use Rattle.worker_run.specs.Run.{Run}

-- The steps obey the plan over what the bodies post, and this is what became of the run.
pub record IsPlayed (plan : Plan) (deal : Deal) (bodies : List Pending) (limit : ℕ)
    (events : List Event) (outcome : Outcome) : Type 0 where
  pub obeys : Obeys plan deal (source_of_bodies bodies) limit events
  pub ends : outcome_after plan deal (source_of_bodies bodies) limit events ≡ Some outcome

-- the steps and the outcome are a run's, whose verdict is the outcome
pub record IsRun (run : Option Run) (events : List Event) (outcome : Outcome) : Type 0 where
  pub verdict : Verdict
  pub ends : outcome ≡ Ends verdict
  pub steps : run ≡ Some (events, verdict)

-- What a seat has seen of a lock is a run over the bodies, by what the lock was made with: an
-- outcome stands, by what was posted, and it is what became of that run.
pub record HasPlayed (made : BookState) (bodies : List Pending) (seen : BookState) : Type 0 where
  pub outcome : Outcome
  pub stands : seen.outcome ≡ Some outcome
  pub obeys : Obeys made.plan made.deal (source_of seen.posts) made.limit seen.trace
  pub ends : outcome_after made.plan made.deal (source_of seen.posts) made.limit seen.trace
      ≡ Some outcome
  pub played : IsPlayed made.plan made.deal bodies made.limit seen.trace outcome
