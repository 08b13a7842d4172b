-- There are at most 64 names of a kind, and equal first values are all in range.
use Rattle.std.proofs.Common.{◌≡◌, ℕ, ℤ, pos, List, length, replicate, arith, rules, ap, ◌∙◌}
use Rattle.std.proofs.Math.ListN.{length-replicate}
use Rattle.std.proofs.lemmas.List.Elements.{All-same, All-replicate}
use Rattle.pct_ask.specs.Ranges.{IsSemValue, IsBarrierCount}
use Rattle.pct_ask.specs.declared.names.NameKind.TheVariants.{Thread, Var, Mutex, Cond, Sem}
use Rattle.pct_ask.specs.declared.names.NameKind.TheVariants.{Barrier, RwLock}
use Rattle.c_values.proofs.deal.deal_of_names.Goals as goal

length-several : (list : List ℤ) (count : ℕ) (value : ℤ) → list ≡ replicate count value
    → length list ≡ count
length-several list count value e = ap length e ∙ length-replicate count value

pub invariant_of-result : goal.invariant_of-result
invariant_of-result c =
    let few = c.count-threads.ensures.lawful.few in
    let vars = length-several _ c.count.result (pos 0) c.in_ok-several.ensures in
    let sems = length-several _ c.count-4.result (pos 0) c.in_ok-several-2.ensures in
    let barriers = length-several _ c.count-5.result (pos 1) c.in_ok-several-3.ensures in
    record {
      some_thread = omega arith;
      few_threads = omega (arith, few Thread);
      few_vars = omega (arith, few Var, vars);
      few_mutexes = omega (arith, few Mutex);
      few_conds = omega (arith, few Cond);
      few_sems = omega (arith, few Sem, sems);
      few_barriers = omega (arith, few Barrier, barriers);
      few_rwlocks = omega (arith, few RwLock);
      sem_values =
          All-same IsSemValue _ (replicate c.count-4.result (pos 0)) c.in_ok-several-2.ensures
          (All-replicate IsSemValue c.count-4.result (pos 0) (search rules));
      barrier_counts =
          All-same IsBarrierCount _ (replicate c.count-5.result (pos 1)) c.in_ok-several-3.ensures
          (All-replicate IsBarrierCount c.count-5.result (pos 1) (search rules));
    }
