use Rattle.std.proofs.Common.{◌<◌, ℕ, length, set, get_or, refl, sym, subst, ◌∙◌, arith, inl, inr}
use Rattle.std.proofs.lemmas.Bool.{cases_eq}
use Rattle.std.proofs.lemmas.List.{length-set}
use Rattle.std.proofs.lemmas.Option.{slice_get-get_or, slice_get_read, slice_get_within}
use Rattle.worker_run.specs.Batch.{IsSeatOf, is_there}
use Rattle.worker_run.specs.Batches.{IsThere, ToldAt}
use Rattle.worker_run.proofs.Eachs.{each-set, map-get}
use Rattle.worker_run.proofs.Loops.{rest-set, there-at, told-new, told-kept, told-other}
use Rattle.worker_run.proofs.task_lists.join_tasks.Goals as goal

pub loop-index-init : goal.loop-index-init
loop-index-init g c = record {
  seats = c.requires.seats;
  long = refl;
  rest = λ i above. refl;
  kept = λ i t told. told;
  joined = λ i t are below there. absurd (omega arith);
}

pub join_task-requires-clause-seat : goal.join_task-requires-clause-seat
join_task-requires-clause-seat g c = λ κs lives.
    let k = c.loop-index.index in
    let i = c.loop-index.invariant in
    let shares = c.loop-index.shares in
    let tests = c.args.tests.now in
    let test = c.index-tests-index.result in
    let share = get_or shares k c.index-shares-index.result in
    let under : k < length tests = c.loop-index-test.true in
    let here = slice_get_read tests (length tests) k test refl under c.index-tests-index.is in
    let at_share = slice_get-get_or shares k c.index-shares-index.result
    (omega (arith, i.seats.long)) in
    i.seats.each k test share here at_share

pub join_task-requires-clause-task : goal.join_task-requires-clause-task
join_task-requires-clause-task g c = λ κs lives.
    let k = c.loop-index.index in
    let i = c.loop-index.invariant in
    let tasks = c.loop-index.tasks in
    let tests = c.args.tests.now in
    let test = c.index-tests-index.result in
    let task = get_or tasks k c.index-tasks-index.result in
    let under : k < length tests = c.loop-index-test.true in
    let here = slice_get_read tests (length tests) k test refl under c.index-tests-index.is in
    let at_task = slice_get-get_or tasks k c.index-tasks-index.result
    (omega (arith, i.long, c.requires.tasks.1.long)) in (
      c.requires.tasks.0,
      c.requires.tasks.1.each k test task here
          (sym (i.rest k (omega arith)) ∙ at_task),
    )

pub loop-index-preserved : goal.loop-index-preserved
loop-index-preserved g c =
    let f = g.B.Body.pending in
    let k = c.loop-index.index in
    let i = c.loop-index.invariant in
    let shares = c.loop-index.shares in
    let tasks = c.loop-index.tasks in
    let first = c.args.tasks.now in
    let tests = c.args.tests.now in
    let test = c.index-tests-index.result in
    let share = get_or shares k c.index-shares-index.result in
    let task = get_or tasks k c.index-tasks-index.result in
    let new_share = c.join_task.new.share in
    let new_task = c.join_task.new.task in
    let under : k < length tests = c.loop-index-test.true in
    let in_shares : k < length shares = omega (arith, i.seats.long) in
    let here = slice_get_read tests (length tests) k test refl under c.index-tests-index.is in
    let at_share = slice_get-get_or shares k c.index-shares-index.result in_shares in
    let at_task = slice_get-get_or tasks k c.index-tasks-index.result
    (omega (arith, i.long, c.requires.tasks.1.long)) in
    let at_first = sym (i.rest k (omega arith)) ∙ at_task in
    let s = c.join_task.ensures in
    record {
      seats = each-set (λ s w. IsSeatOf s.lock.now w.seat) tests shares i.seats k test new_share
          in_shares here s.seat;
      long = length-set tasks k new_task ∙ i.long;
      rest = rest-set first tasks k new_task i.rest;
      kept =
          λ j t told. told-kept shares k share new_share at_share f tests test here s.kept j t
          (i.kept j t told);
      joined = λ j t are below there. elim (cases_eq j k) [
        | inl same ↦
            let I : ℕ → Type 0 = λ n. IsThere first n in
            let T : ℕ → Type 0 = λ n. ToldAt f tests (set shares k new_share) n t in
            subst T (sym same) (told-new shares k share new_share at_share f tests test here t
            (s.joined t (are.each k test task here at_first)
            (there-at first k task at_first (subst I same there))))
        | inr apart ↦ told-other shares k share new_share at_share f tests test here j t apart
            (i.joined j t are (omega (arith, apart)) there)
      ];
    }

pub returns : goal.returns
returns g c =
    let i = c.loop-index.invariant in
    record {
      seats = i.seats;
      kept = i.kept;
      joined = λ j t are there.
          let at = map-get is_there c.args.tasks.now j _ there in
          i.joined j t are (let under = slice_get_within c.args.tasks.now j at.0 at.1 in
          omega (arith, c.loop-index-test.false, are.long, under)) there;
    }
