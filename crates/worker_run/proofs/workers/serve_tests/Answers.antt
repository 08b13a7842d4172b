use Rattle.std.proofs.Common.{List, Vec, Global, length, sym, ap, subst, arith, inl, inr}
use Rattle.worker_run.specs.Batches.{Holds, IsListed}
use Rattle.worker_run.specs.declared.batch.Share.{Share}
use Rattle.worker_run.specs.declared.batch.Task.{Task}
use Rattle.worker_run.proofs.Ends.{written}
use Rattle.worker_run.proofs.workers.serve_tests.Goals as goal

pub returns-clause-told : goal.returns-clause-told
returns-clause-told g c = λ i t h.
    let left = c.fill_lists.new.shares in
    let filled = c.fill_lists.new.lists in
    let H : List (Share g.row.P.Denot g.row.B.Denot g.P.Policy) → Type 0 = λ l. Holds l i t in
    let I : List (Vec (Task g.row.P.Denot g.row.B.Denot g.P.Policy) Global) → Type 0 =
    λ l. IsListed l i t in
    let w = written c.args.shares.len left c.args.shares.items
    (omega (
      arith,
      c.fill_lists.ensures.shares.long,
      ap length c.as_slice.ensures.value,
      c.requires.shares.long,
      c.args.shares.ok.0,
    )) in
    let wp = written c.args.lists.len filled c.args.lists.items
    (omega (
      arith,
      c.fill_lists.ensures.long,
      ap length c.as_mut_slice-2.ensures.value,
      c.args.lists.ok.0,
    )) in
    elim (c.fill_lists.ensures.shared i t (subst H (sym c.as_mut_slice.ensures.value) h)) [
      | inl still ↦ c.start_workers.ensures.held i t (subst H (sym w) still)
      | inr listed ↦ c.start_workers.ensures.listed i t (subst I (sym wp) listed)
    ]
