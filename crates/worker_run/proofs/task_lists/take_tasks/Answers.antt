use Rattle.std.proofs.Common.{◌<◌, ℕ, length, set, get_or, refl, sym, subst, arith, inl, inr}
use Rattle.std.proofs.lemmas.Bool.{cases_eq}
use Rattle.std.proofs.lemmas.Option.{slice_get-get_or, slice_get_read}
use Rattle.worker_run.specs.Batch.{IsShareOf, IsTask, IsServedTask}
use Rattle.worker_run.specs.Batches.{IsThere, Holds}
use Rattle.worker_run.proofs.Eachs.{each-set}
use Rattle.worker_run.proofs.Loops.{below-set, below-all, served-is, holds-kept, holds-new}
use Rattle.worker_run.proofs.Loops.{there-at, there-other, there-set}
use Rattle.worker_run.proofs.task_lists.take_tasks.Goals as goal

pub loop-index-init : goal.loop-index-init
loop-index-init g c = record {
  shares = c.requires.shares;
  tasks = c.requires.tasks;
  done = λ i s w below here there. absurd (omega arith);
  kept = λ i t h. h;
  taken = λ i there. inr there;
}

pub take_task-requires-clause-share : goal.take_task-requires-clause-share
take_task-requires-clause-share g c = λ κs lives.
    let k = c.loop-index.index in
    let i = c.loop-index.invariant in
    let shares = c.loop-index.shares in
    let tests = c.args.tests.now in
    let test = c.index-tests-index.result in
    let share = get_or shares k c.index-shares-index.result in
    let under : k < length tests = c.loop-index-test.true in
    let here = slice_get_read tests (length tests) k test refl under c.index-tests-index.is in
    let at_share = slice_get-get_or shares k c.index-shares-index.result
    (omega (arith, i.shares.long)) in
    i.shares.each k test share here at_share

pub take_task-requires-clause-task : goal.take_task-requires-clause-task
take_task-requires-clause-task g c = λ κs lives.
    let k = c.loop-index.index in
    let i = c.loop-index.invariant in
    let tasks = c.loop-index.tasks in
    let tests = c.args.tests.now in
    let test = c.index-tests-index.result in
    let task = get_or tasks k c.index-tasks-index.result in
    let under : k < length tests = c.loop-index-test.true in
    let here = slice_get_read tests (length tests) k test refl under c.index-tests-index.is in
    let at_task = slice_get-get_or tasks k c.index-tasks-index.result
    (omega (arith, i.tasks.long)) in
    i.tasks.each k test task here at_task

pub loop-index-preserved : goal.loop-index-preserved
loop-index-preserved g c =
    let f = g.B.Body.pending in
    let t = c.args.thread in
    let k = c.loop-index.index in
    let i = c.loop-index.invariant in
    let shares = c.loop-index.shares in
    let tasks = c.loop-index.tasks in
    let tests = c.args.tests.now in
    let test = c.index-tests-index.result in
    let share = get_or shares k c.index-shares-index.result in
    let task = get_or tasks k c.index-tasks-index.result in
    let new_share = c.take_task.new.share in
    let new_task = c.take_task.new.task in
    let under : k < length tests = c.loop-index-test.true in
    let in_shares : k < length shares = omega (arith, i.shares.long) in
    let in_tasks : k < length tasks = omega (arith, i.tasks.long) in
    let here = slice_get_read tests (length tests) k test refl under c.index-tests-index.is in
    let at_share = slice_get-get_or shares k c.index-shares-index.result in_shares in
    let at_task = slice_get-get_or tasks k c.index-tasks-index.result in_tasks in
    let s = c.take_task.ensures in
    record {
      shares = each-set (IsShareOf f) tests shares i.shares k test new_share in_shares here s.share;
      tasks =
          each-set (λ s p. IsTask f s t p) tests tasks i.tasks k test new_task in_tasks here
          (served-is f test t new_task s.served);
      done =
          below-set (λ s p. IsServedTask f s t p) tests tasks k test new_task in_tasks here
          s.served i.done;
      kept = λ j u h. holds-kept shares k share new_share at_share s.kept j u (i.kept j u h);
      taken = λ j there. elim (i.taken j there) [
        | inl held ↦ inl (holds-kept shares k share new_share at_share s.kept j t held)
        | inr left ↦ elim (cases_eq j k) [
          | inl same ↦
              let I : ℕ → Type 0 = λ n. IsThere tasks n in
              elim (s.taken (there-at tasks k task at_task (subst I same left))) [
                | inl held ↦ inl (let H : ℕ → Type 0 = λ n. Holds (set shares k new_share) n t in
                    subst H (sym same) (holds-new shares k share new_share at_share t held))
                | inr is ↦ inr (let J : ℕ → Type 0 = λ n. IsThere (set tasks k new_task) n in
                    subst J (sym same) (there-set tasks k new_task in_tasks is))
              ]
          | inr apart ↦ inr (there-other tasks k j new_task apart left)
        ]
      ];
    }

pub returns : goal.returns
returns g c =
    let f = g.B.Body.pending in
    let i = c.loop-index.invariant in
    record {
      shares = i.shares;
      served =
          below-all (λ s p. IsServedTask f s c.args.thread p) c.args.tests.now c.loop-index.tasks
          c.loop-index.index c.loop-index-test.false i.done i.tasks.long;
      kept = i.kept;
      taken = i.taken;
    }
