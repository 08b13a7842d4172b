use Rattle.std.specs.Prelude.{slice_get}
use Rattle.std.proofs.Common.{◌≡◌, ◌<◌, ◌+◌, ℕ, true, length, get_or, refl, sym, ap, subst, ◌∙◌}
use Rattle.std.proofs.Common.{◌++◌, ◌∷◌, [], List, arith, inl, inr}
use Rattle.std.proofs.lemmas.Option.{slice_get-get_or, slice_get_read}
use Rattle.worker_run.specs.Batch.{IsShareOf, IsTask, is_there}
use Rattle.worker_run.specs.Batches.{IsThere}
use Rattle.worker_run.specs.declared.batch.Task.{Task}
use Rattle.worker_run.proofs.Eachs.{each-set}
use Rattle.worker_run.proofs.Loops.{Along, along-more, holds-step, there-old, there-new}
use Rattle.worker_run.proofs.task_lists.fill_tasks.Goals as goal

pub task_of-requires-clause-share : goal.task_of-requires-clause-share
task_of-requires-clause-share g c = λ κs lives.
    let k = c.loop-index.index in
    let i = c.loop-index.invariant in
    let shares = c.loop-index.shares in
    let tests = c.args.tests.now in
    let test = c.index-tests-index.result in
    let share = get_or shares k c.index-shares-index.result in
    let under : k < length tests = c.loop-index-test.true in
    let here = slice_get_read tests (length tests) k test refl under c.index-tests-index.is in
    let at_share = slice_get-get_or shares k c.index-shares-index.result
    (omega (arith, i.shares.long)) in
    i.shares.each k test share here at_share

pub loop-index-preserved : goal.loop-index-preserved
loop-index-preserved g c =
    let f = g.B.Body.pending in
    let t = c.args.thread in
    let k = c.loop-index.index in
    let i = c.loop-index.invariant in
    let shares = c.loop-index.shares in
    let tasks = c.loop-index.tasks.items in
    let tests = c.args.tests.now in
    let test = c.index-tests-index.result in
    let share = get_or shares k c.index-shares-index.result in
    let new_share = c.task_of.new.share in
    let task = c.task_of.result in
    let under : k < length tests = c.loop-index-test.true in
    let in_shares : k < length shares = omega (arith, i.shares.long) in
    let here = slice_get_read tests (length tests) k test refl under c.index-tests-index.is in
    let at_share = slice_get-get_or shares k c.index-shares-index.result in_shares in
    let s = c.task_of.ensures in
    let more = sym c.push_reserved.ensures.items in
    let L : List (Task g.row.P.Denot g.row.B.Denot g.P.Policy) → Type 0 =
    λ l. Along (λ s p. IsTask f s t p) tests l in
    let long : k ≡ length tasks = omega (arith, i.long, c.loop-index.tasks.ok.0) in
    record {
      long = c.push_reserved.ensures.len ∙ ap (λ n. n + 1) i.long;
      capacity = c.push_reserved.ensures.capacity ∙ i.capacity;
      shares = each-set (IsShareOf f) tests shares i.shares k test new_share in_shares here s.share;
      tasks =
          subst L more (along-more (λ s p. IsTask f s t p) tests tasks test task
          (ap (λ n. slice_get tests n) (sym long) ∙ here) s.task i.tasks);
      shared = λ j u h.
          let W : List (Task g.row.P.Denot g.row.B.Denot g.P.Policy) → Type 0 = λ l. IsThere l j in
          elim (i.shared j u h) [
            | inl held ↦ elim (holds-step shares k share new_share at_share
                (λ n. (n ≡ t) × (is_there task ≡ true)) s.shared j u held) [
                  | inl w ↦ inl w
                  | inr w ↦ inr (
                    w.1.0,
                    subst W more
                        (let N : ℕ → Type 0 = λ n. IsThere (tasks ++ task ∷ []) n in
                        subst N (sym (w.0 ∙ long)) (there-new tasks task w.1.1)),
                  )
                ]
            | inr gone ↦ inr (gone.0, subst W more (there-old tasks task j gone.1))
          ];
    }
