-- What taking a run leaves, and of what plans the runs of a batch are.
use Rattle.std.proofs.Common.{◌≡◌, ◌≤◌, ℕ, List, Option, Some, None, Result, Ok, Err, length, sym}
use Rattle.std.proofs.Common.{subst}
use Rattle.std.specs.Prelude.{IfOk}
use Rattle.rank_now.specs.declared.moment.Moment.{Moment}
use Rattle.policy_pick.specs.Plan.{Plan, SpeaksOf, ByPoints, ByMoments}
use Rattle.worker_run.specs.Run.{run, directed_run}
use Rattle.worker_run.specs.Played.{IsRun}
use Rattle.worker_run.specs.declared.played.Played.{Played}
use Rattle.script_run.specs.Ready.{bodies_of_code}
use Rattle.script_run.specs.Batches.{Common, IsPlanOf, Decides}

module _ {K A : Type 0} (Stands : K → ℕ → Type 0) (Answers : K → A → Type 0) (kept : K) (place : ℕ)
    (found : Option A) (decides : Decides Stands Answers kept place found) where
  pub decided : (answer : A) → found ≡ Some answer → Answers kept answer
  decided answer is = let D : Option A → Type 0 = Decides Stands Answers kept place in
      subst D is decides

  pub undecided : found ≡ None → Stands kept place
  undecided none = let D : Option A → Type 0 = Decides Stands Answers kept place in
      subst D none decides

-- of an order of the threads and points, or moments, whose run is so
module _ {P E : Type 0} (plan : P → Plan) (common : Common) (IsSo : Played → Type 0)
    (order : List ℕ) (whole : length order ≡ common.deal.threads) where
  pub by_points : (points : List ℕ) (made : Result P E)
      → ((ended : Played)
      → IsRun (run common.deal (bodies_of_code common.code) order points common.limit) ended.events
      ended.outcome → length ended.events ≤ common.limit → IsSo ended)
      → IfOk made (λ p. plan p ≡ ByPoints order points)
      → IfOk made (λ p. IsPlanOf common IsSo (plan p))
  by_points points (Ok p) so is = record {
    speaks = subst (λ q. SpeaksOf q common.deal.threads) (sym is) (sym whole);
    run = λ ended ran. so ended (ran.by_points order points is) ran.played.obeys.within;
  }
  by_points points (Err e) so is = tt

  pub by_moments : (moments : List Moment) (made : Result P E)
      → ((ended : Played)
      → IsRun (directed_run common.deal (bodies_of_code common.code) order moments common.limit)
      ended.events ended.outcome → length ended.events ≤ common.limit → IsSo ended)
      → IfOk made (λ p. plan p ≡ ByMoments order moments)
      → IfOk made (λ p. IsPlanOf common IsSo (plan p))
  by_moments moments (Ok p) so is = record {
    speaks = subst (λ q. SpeaksOf q common.deal.threads) (sym is) (sym whole);
    run = λ ended ran. so ended (ran.by_moments order moments is) ran.played.obeys.within;
  }
  by_moments moments (Err e) so is = tt
