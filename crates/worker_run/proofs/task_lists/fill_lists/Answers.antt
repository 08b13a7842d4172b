use Rattle.std.proofs.Common.{◌<◌, length, get_or, refl, sym, ◌∙◌, arith, inl, inr}
use Rattle.std.proofs.lemmas.List.{length-set}
use Rattle.std.proofs.lemmas.Option.{slice_get-get_or, slice_get_within}
use Rattle.worker_run.proofs.Loops.{rest-set, lists-below, listed-set, listed-here}
use Rattle.worker_run.proofs.task_lists.fill_lists.Goals as goal

pub loop-thread-init : goal.loop-thread-init
loop-thread-init g c = record {
  long = refl;
  rest = λ t above. refl;
  shares = c.requires.shares;
  lists = λ t tasks below at. absurd (omega arith);
  shared = λ i t h. inl h;
}

pub fill_tasks-requires-clause-empty : goal.fill_tasks-requires-clause-empty
fill_tasks-requires-clause-empty g c = λ κs lives.
    let k = c.loop-thread.thread in
    let i = c.loop-thread.invariant in
    let lists = c.loop-thread.lists in
    let list = get_or lists k c.index-lists-thread.result in
    let within : k < length lists = omega (arith, c.loop-thread-test.true, i.long) in
    let at = slice_get-get_or lists k c.index-lists-thread.result within in
    c.requires.empty k list (sym (i.rest k (omega arith)) ∙ at)

pub loop-thread-preserved : goal.loop-thread-preserved
loop-thread-preserved g c =
    let f = g.B.Body.pending in
    let k = c.loop-thread.thread in
    let i = c.loop-thread.invariant in
    let lists = c.loop-thread.lists in
    let list = get_or lists k c.index-lists-thread.result in
    let new = c.fill_tasks.new.tasks in
    let within : k < length lists = omega (arith, c.loop-thread-test.true, i.long) in
    let at = slice_get-get_or lists k c.index-lists-thread.result within in
    let empty = (c.requires.empty k list (sym (i.rest k (omega arith)) ∙ at)).empty in
    let s = c.fill_tasks.ensures in
    record {
      long = length-set lists k new ∙ i.long;
      rest = rest-set c.args.lists.now lists k new i.rest;
      shares = s.shares;
      lists = lists-below lists k f c.args.tests.now new within s.tasks i.lists;
      shared = λ j u h. elim (i.shared j u h) [
        | inl held ↦ elim (s.shared j u held) [
          | inl w ↦ inl w
          | inr w ↦ inr (listed-here lists k new within j u w.0 w.1)
        ]
        | inr listed ↦ inr (listed-set lists k list new at empty j u listed)
      ];
    }

pub returns : goal.returns
returns g c =
    let i = c.loop-thread.invariant in
    let lists = c.loop-thread.lists in
    let all = c.loop-thread-test.false in
    record {
      long = i.long;
      shares = i.shares;
      lists = λ t tasks at. i.lists t tasks
          (let under = slice_get_within lists t tasks at in omega (arith, under, all, i.long)) at;
      shared = i.shared;
    }
