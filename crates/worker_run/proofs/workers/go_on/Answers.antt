use Rattle.std.specs.Prelude.{slice_get}
use Rattle.std.proofs.Common.{◌≡◌, List, length, sym, ap, subst, ◌∙◌, arith}
use Rattle.worker_run.specs.Batches.{AreServedTasks, IsThere, ToldAt}
use Rattle.worker_run.specs.declared.batch.RunningTest.{RunningTest}
use Rattle.worker_run.specs.declared.batch.Share.{Share}
use Rattle.worker_run.specs.declared.batch.Task.{Task}
use Rattle.worker_run.proofs.Backs.{back-all-there}
use Rattle.worker_run.proofs.Ends.{written}
use Rattle.worker_run.proofs.workers.go_on.Goals as goal

pub returns-clause-kept : goal.returns-clause-kept
returns-clause-kept g c = λ i t told.
    let new = c.join_tasks.new.shares in
    let w = written c.args.shares.len new c.args.shares.items
    (omega (
      arith,
      c.join_tasks.ensures.seats.long,
      ap length c.as_slice-2.ensures.value,
      c.requires.seats.long,
      c.args.shares.ok.0,
    )) in
    let T : List (RunningTest g.row.P.Denot g.row.B.Denot)
    × List (Share g.row.P.Denot g.row.B.Denot g.P.Policy) → Type 0 =
    λ p. ToldAt g.B.Body.pending p.0 p.1 i t in
    subst T (λ j. (c.as_slice-2.ensures.value j, sym w j))
    (c.join_tasks.ensures.kept i t (subst T
    (λ j. (sym c.as_slice-2.ensures.value j, sym c.as_mut_slice-2.ensures.value j)) told))

pub returns-clause-joined : goal.returns-clause-joined
returns-clause-joined g c = λ i there.
    let f = g.B.Body.pending in
    let t = c.args.thread in
    let new = c.join_tasks.new.shares in
    let w = written c.args.shares.len new c.args.shares.items
    (omega (
      arith,
      c.join_tasks.ensures.seats.long,
      ap length c.as_slice-2.ensures.value,
      c.requires.seats.long,
      c.args.shares.ok.0,
    )) in
    let back = c.serve_tasks.new.tasks in
    let wp = written c.args.tasks.len back c.args.tasks.items
    (omega (
      arith,
      c.serve_tasks.ensures.served.long,
      ap length c.as_slice.ensures.value,
      c.requires.tasks.long,
      c.args.tasks.ok.0,
    )) in
    let same : c.as_mut_slice-3.result.now ≡ back = c.as_mut_slice-3.ensures.value ∙ wp in
    let T : List (RunningTest g.row.P.Denot g.row.B.Denot)
    × List (Share g.row.P.Denot g.row.B.Denot g.P.Policy) → Type 0 = λ p. ToldAt f p.0 p.1 i t in
    let S : List (RunningTest g.row.P.Denot g.row.B.Denot)
    × List (Task g.row.P.Denot g.row.B.Denot g.P.Policy) → Type 0 =
    λ p. AreServedTasks f p.0 t p.1 in
    let I : List (Task g.row.P.Denot g.row.B.Denot g.P.Policy) → Type 0 = λ l. IsThere l i in
    let served = subst S (λ j. (
      (c.as_slice.ensures.value ∙ sym c.as_slice-2.ensures.value) j,
      sym same j,
    )) c.serve_tasks.ensures.served in
    let first = subst I (sym c.as_mut_slice.ensures.value) there in
    let left =
    subst I (sym same)
    (ap (λ l. slice_get l i) (back-all-there f t _ back c.serve_tasks.ensures.back) ∙ first) in
    subst T (λ j. (c.as_slice-2.ensures.value j, sym w j))
    (c.join_tasks.ensures.joined i t served left)
