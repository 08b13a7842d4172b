-- The runs of the sample threads by two lists of change points.
use Rattle.std.proofs.Common.{◌≡◌, ℕ, ℤ, pos, true, false, [], ◌∷◌, Some, refl, arith}
use Rattle.pct_ask.specs.declared.ask.Ask.{Ask}
use Rattle.pct_ask.specs.declared.ask.Ask.TheVariants.{Read, Write, Join, Check}
use Rattle.pct_ask.specs.declared.Deal.{Deal}
use Rattle.pct_ask.specs.declared.event.Event.{Event}
use Rattle.pct_ask.specs.declared.verdict.Verdict.TheVariants.{Passed, Failed}
use Rattle.rank_now.specs.Rank.{rank_by}
use Rattle.worker_run.specs.Run.{run}
use Rattle.worker_run.specs.Samples.{sample_threads}

abbrev sample_deal : Deal
sample_deal = record {
  threads = 3;
  vars = pos 0 ∷ [];
  mutexes = 0;
  conds = 0;
  sems = [];
  barriers = [];
  rwlocks = 0;
  some_thread = omega arith;
  few_threads = omega arith;
  few_vars = omega arith;
  few_mutexes = omega arith;
  few_conds = omega arith;
  few_sems = omega arith;
  few_barriers = omega arith;
  few_rwlocks = omega arith;
  sem_values = λ k d within. absurd (omega arith);
  barrier_counts = λ k d within. absurd (omega arith);
}

abbrev event : ℕ → ℕ → Ask → ℤ → Event
event thread line ask answer = record { thread = thread; line = line; ask = ask; answer = answer }

-- in order, each counter adds its one
in-order : run sample_deal sample_threads (0 ∷ 1 ∷ 2 ∷ []) [] 9 ≡ Some (
  event 0 4 (Read 0) (pos 0) ∷ event 0 5 (Write 0 (pos 1)) (pos 0) ∷ event 1 8 (Read 0) (pos 1)
      ∷ event 1 9 (Write 0 (pos 2)) (pos 0)
      ∷ event 2 12 (Join 0) (pos 0) ∷ event 2 13 (Join 1) (pos 0) ∷ event 2 14 (Read 0) (pos 2)
      ∷ event 2 15 (Check true) (pos 0) ∷ [],
  Passed,
)
unfolding rank_by
in-order = refl

-- a change point after the first step loses an update
lost-update : run sample_deal sample_threads (0 ∷ 1 ∷ 2 ∷ []) (1 ∷ []) 9 ≡ Some (
  event 0 4 (Read 0) (pos 0) ∷ event 1 8 (Read 0) (pos 0) ∷ event 1 9 (Write 0 (pos 1)) (pos 0)
      ∷ event 0 5 (Write 0 (pos 1)) (pos 0)
      ∷ event 2 12 (Join 0) (pos 0) ∷ event 2 13 (Join 1) (pos 0) ∷ event 2 14 (Read 0) (pos 1)
      ∷ event 2 15 (Check false) (pos 0) ∷ [],
  Failed 2 15,
)
unfolding rank_by
lost-update = refl
