-- A script has one deal.
use Rattle.std.proofs.Common.{◌≡◌, ℕ, ℤ, ◌≤◌, List, length, All, sym, ap, subst, ◌∙◌}
use Rattle.std.proofs.Props.{props}
use Rattle.pct_ask.specs.Ranges.{IsSemValue, IsBarrierCount}
use Rattle.pct_ask.specs.declared.Deal.{Deal}
use Rattle.script_tree.specs.ScriptText.{ScriptText}
use Rattle.script_tree.specs.DealOf.{IsDealOf}

-- the data of a deal
abbrev data_of : Deal → ℕ × List ℤ × ℕ × ℕ × List ℤ × List ℤ × ℕ
data_of d = (d.threads, d.vars, d.mutexes, d.conds, d.sems, d.barriers, d.rwlocks)

-- and what holds of it
record Facts (x : ℕ × List ℤ × ℕ × ℕ × List ℤ × List ℤ × ℕ) : Type 0 where
  some_thread : 1 ≤ x.0
  few_threads : x.0 ≤ 64
  few_vars : length x.1 ≤ 64
  few_mutexes : x.2 ≤ 64
  few_conds : x.3 ≤ 64
  few_sems : length x.4 ≤ 64
  few_barriers : length x.5 ≤ 64
  few_rwlocks : x.6 ≤ 64
  sem_values : All IsSemValue x.4
  barrier_counts : All IsBarrierCount x.5

facts-prop : (x : ℕ × List ℤ × ℕ × ℕ × List ℤ × List ℤ × ℕ) → IsProp (Facts x)
facts-prop x = hlevel props

facts_of : (d : Deal) → Facts (data_of d)
facts_of d = record {
  some_thread = d.some_thread;
  few_threads = d.few_threads;
  few_vars = d.few_vars;
  few_mutexes = d.few_mutexes;
  few_conds = d.few_conds;
  few_sems = d.few_sems;
  few_barriers = d.few_barriers;
  few_rwlocks = d.few_rwlocks;
  sem_values = d.sem_values;
  barrier_counts = d.barrier_counts;
}

abbrev deal_by : (x : ℕ × List ℤ × ℕ × ℕ × List ℤ × List ℤ × ℕ) → Facts x → Deal
deal_by x f = record {
  threads = x.0;
  vars = x.1;
  mutexes = x.2;
  conds = x.3;
  sems = x.4;
  barriers = x.5;
  rwlocks = x.6;
  some_thread = f.some_thread;
  few_threads = f.few_threads;
  few_vars = f.few_vars;
  few_mutexes = f.few_mutexes;
  few_conds = f.few_conds;
  few_sems = f.few_sems;
  few_barriers = f.few_barriers;
  few_rwlocks = f.few_rwlocks;
  sem_values = f.sem_values;
  barrier_counts = f.barrier_counts;
}

by-data : (one other : Deal) → data_of one ≡ data_of other → one ≡ other
unfolding facts_of
by-data one other same =
    let P : ℕ × List ℤ × ℕ × ℕ × List ℤ × List ℤ × ℕ → Type 0 = λ x. (f : Facts x)
    → one ≡ deal_by x f in
    let here : P (data_of one) = λ f.
    ap (deal_by (data_of one)) (facts-prop (data_of one) (facts_of one) f) in
    subst P same here (facts_of other)

pub one_deal : (script : ScriptText) (one other : Deal) → IsDealOf script one
    → IsDealOf script other → one ≡ other
one_deal script one other a b =
    let threads : one.threads ≡ other.threads = a.threads ∙ sym b.threads in
    let vars : one.vars ≡ other.vars = a.vars ∙ sym b.vars in
    let mutexes : one.mutexes ≡ other.mutexes = a.mutexes ∙ sym b.mutexes in
    let conds : one.conds ≡ other.conds = a.conds ∙ sym b.conds in
    let sems : one.sems ≡ other.sems = a.sems ∙ sym b.sems in
    let barriers : one.barriers ≡ other.barriers = a.barriers ∙ sym b.barriers in
    let rwlocks : one.rwlocks ≡ other.rwlocks = a.rwlocks ∙ sym b.rwlocks in
    by-data one other (λ i. (threads i, vars i, mutexes i, conds i, sems i, barriers i, rwlocks i))
