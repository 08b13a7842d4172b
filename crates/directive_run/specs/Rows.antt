-- Small theorems that read the definitions on known lists.
use Rattle.std.specs.Prelude.{◌≡◌, pos, [], ◌∷◌, refl}
use native.Mathlib.Nat.{not-suc-le-zero}
use Prim.Native.Nat.{suc-le-suc, zero-le}
use Rattle.pct_ask.specs.declared.Deal.{Deal}
use Rattle.pct_ask.specs.declared.verdict.Verdict.TheVariants.{Failed}
use Rattle.rank_now.specs.Rank.{rank_by}
use Rattle.worker_run.specs.Run.{run}
use Rattle.worker_run.specs.Samples.{sample_threads}
use Rattle.choices.specs.Counting.{LedRuns, hits}

-- what the two adders and the thread that checks share: a variable
abbrev pub adders_deal : Deal
adders_deal = record {
  threads = 3;
  vars = pos 0 ∷ [];
  mutexes = 0;
  conds = 0;
  sems = [];
  barriers = [];
  rwlocks = 0;
  some_thread = suc-le-suc zero-le;
  few_threads = suc-le-suc (suc-le-suc (suc-le-suc zero-le));
  few_vars = suc-le-suc zero-le;
  few_mutexes = zero-le;
  few_conds = zero-le;
  few_sems = zero-le;
  few_barriers = zero-le;
  few_rwlocks = zero-le;
  sem_values = λ k d h. absurd (not-suc-le-zero h);
  barrier_counts = λ k d h. absurd (not-suc-le-zero h);
}

-- their runs of at most 9 steps
abbrev pub adders_runs : LedRuns
adders_runs order points = run adders_deal sample_threads order points 9

-- A point after the first step loses an update under each of the six orders, and one after the
-- second step under none.
pub six_hits : hits adders_runs 3 2 1 (Failed 2 15) ≡ 6
unfolding rank_by
six_hits = refl
