-- Runs that are made in batches, and taken one after another (this project).
use Rattle.std.specs.Prelude.{◌≡◌, ℕ, ◌+◌, List, Option, Some, None, map, slice_get}
use Rattle.pct_ask.specs.declared.Deal.{Deal}
use Rattle.policy_pick.specs.Plan.{Plan, SpeaksOf}
use Rattle.turn_book.specs.Told.{BookState, new_book}
use Rattle.script_code.specs.Operations.{Operation}
use Rattle.script_body.specs.BodyPosts.{pending_of_body}
use Rattle.script_body.specs.declared.body.ScriptBody.{ScriptBody}
use Rattle.worker_run.specs.Served.{first_runners}
use Rattle.worker_run.specs.Tests.{IsRunBy}
use Rattle.worker_run.specs.declared.played.Played.{Played}
use Rattle.worker_run.specs.declared.runner.Runner.{Runner}
use Rattle.script_run.specs.Ready.{bodies_of_code}

-- what the runs of a batch have in common: the code of their script, what its threads share, and
-- how many steps a run may have
pub record Common : Type 0 where
  pub code : List (List Operation)
  pub deal : Deal
  pub limit : ℕ

-- The plan speaks of the script's threads, and what it makes of their bodies is such a run.
pub record IsPlanOf (common : Common) (IsSo : Played → Type 0) (plan : Plan) : Type 0 where
  pub speaks : SpeaksOf plan common.deal.threads
  pub run : (ended : Played)
      → IsRunBy plan common.deal (bodies_of_code common.code) common.limit ended → IsSo ended

-- there is an answer, or what is kept stands at the place
abbrev pub Decides : {K A : Type 0} → (K → ℕ → Type 0) → (K → A → Type 0) → K → ℕ → Option A
    → Type 0
Decides Stands Answers kept place None = Stands kept place
Decides Stands Answers kept place (Some answer) = Answers kept answer

-- one item for each place from the first on
abbrev pub FromPlace : {X : Type 0} → (ℕ → X → Type 0) → ℕ → List X → Type 0
FromPlace {X} At first items =
    (i : ℕ) (item : X) → slice_get items i ≡ Some item → At (first + i) item

-- ---- What follows is for this crate's own use.

-- new runners, of the bodies of the code's threads
pub record AreRunnersOf (code : List (List Operation)) (runners : List (Option (Runner ScriptBody)))
    : Type 0 where
  pub bodies : List ScriptBody
  pub are : runners ≡ first_runners bodies
  pub posts : map pending_of_body bodies ≡ bodies_of_code code

-- a book in which nothing has happened, for such a run
pub record IsSetFor (common : Common) (IsSo : Played → Type 0) (book : BookState) : Type 0 where
  pub made : book ≡ new_book common.deal common.limit book.plan
  pub plan : IsPlanOf common IsSo book.plan
