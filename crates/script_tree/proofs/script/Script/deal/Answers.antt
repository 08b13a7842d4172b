use Rattle.std.proofs.Common.{arith, length, All, ap, sym, subst}
use Rattle.pct_ask.specs.Ranges.{IsSemValue, IsBarrierCount}
use Rattle.pct_ask.specs.declared.names.NameKind.TheVariants as kinds
use Rattle.script_tree.proofs.script.Script.deal.Goals as goal

pub invariant_of-result : goal.invariant_of-result
invariant_of-result c =
    let sound = c.args.self.now.sound in
    let few = c.count.ensures.lawful.few in
    record {
      some_thread = omega (arith, c.count.ensures.count, sound.some_thread, sound.same_threads);
      few_threads = omega (arith, c.count.ensures.count, few kinds.Thread);
      few_vars = omega (arith, ap length c.in_ok-copy.ensures, sound.same_vars, few kinds.Var);
      few_mutexes = omega (arith, c.count-2.ensures.count, few kinds.Mutex);
      few_conds = omega (arith, c.count-3.ensures.count, few kinds.Cond);
      few_sems = omega (arith, ap length c.in_ok-copy-2.ensures, sound.same_sems, few kinds.Sem);
      few_barriers =
          omega (arith, ap length c.in_ok-copy-3.ensures, sound.same_barriers, few kinds.Barrier);
      few_rwlocks = omega (arith, c.count-4.ensures.count, few kinds.RwLock);
      sem_values = subst (All IsSemValue) (sym c.in_ok-copy-2.ensures) sound.sem_values;
      barrier_counts = subst (All IsBarrierCount) (sym c.in_ok-copy-3.ensures) sound.barrier_counts;
    }
