-- A worker's tasks: what came back of them.
use Rattle.std.proofs.Common.{◌≡◌, ℕ, List, map, sym, ap, subst, ◌∙◌, arith, inl, inr}
use Rattle.std.proofs.lemmas.Option.{slice_get_within}
use Rattle.policy_pick.specs.declared.policy.Policy.{Ghosts}
use Rattle.turn_lock.specs.Calls.{first_book}
use Rattle.turn_lock.specs.Views.{view, HasSeat}
use Rattle.turn_lock.proofs.laws.SeenBooks.{making-along}
use Rattle.pct_ask.specs.Bodies.{Pending, pending_of}
use Rattle.worker_run.specs.Batch.{bodies_on, is_there, IsTask, IsWaiting, IsTaskBack, WasServed}
use Rattle.worker_run.specs.Batches.{AreTasks, AreBack}
use Rattle.worker_run.specs.declared.batch.RunningTest.{RunningTest}
use Rattle.worker_run.specs.declared.batch.Task.{Task}
use Rattle.worker_run.specs.declared.batch.Task.TheVariants.{Waiting, Served}
use Rattle.worker_run.proofs.Shares.{own-serves}
use Rattle.worker_run.proofs.ServedThreads.{outside-served, served-thread}
use Rattle.worker_run.proofs.Eachs.{get-within, each-same, map-each}

module _ {P : Type 0} {policy : Ghosts P} {B : Type 0} (pending : B → Pending) (t : ℕ) where
  -- it came back twice
  pub back-along : (one two three : Task P B policy) → IsTaskBack pending t one two
      → IsTaskBack pending t two three → IsTaskBack pending t one three
  back-along one two three first second = elim first [
    | inl same ↦
        let K : Task P B policy → Type 0 = λ p. IsTaskBack pending t p three in
        subst K same second
    | inr served ↦ elim second [
      | inl same ↦
          let K : Task P B policy → Type 0 = λ p. WasServed pending t one p in
          inr (subst K (sym same) served)
      | inr again ↦
          let both : Served served.back ≡ Waiting again.seat again.runner =
          sym served.is ∙ again.waited in
          absurd cc
    ]
  ]

  back-there : (before after : Task P B policy) → IsTaskBack pending t before after
      → is_there after ≡ is_there before
  back-there before after back = elim back [
    | inl same ↦ ap (λ (p : Task P B policy). is_there p) same
    | inr served ↦
        let I : Task P B policy → Type 0 = λ p. is_there after ≡ is_there p in
        subst I (sym served.waited) (ap (λ (p : Task P B policy). is_there p) served.is)
  ]

  -- the threads that had their tasks have them still
  pub back-all-there : (before after : List (Task P B policy)) → AreBack pending t before after
      → map is_there after ≡ map is_there before
  back-all-there before after back =
      map-each is_there (λ one other. IsTaskBack pending t one other) before after back-there back

  pub back-same : (tasks : List (Task P B policy)) → AreBack pending t tasks tasks
  back-same tasks = each-same (λ one other. IsTaskBack pending t one other) tasks
      (λ task. inl (λ i. task))

  -- ---- what comes back of a task is one
  back-task : (test : RunningTest P B) (before after : Task P B policy)
      → IsTask pending test t before
      → IsTaskBack pending t before after → IsTask pending test t after
  back-task test before after task back =
      let I : Task P B policy → Type 0 = λ p. IsTask pending test t p in
      elim back [
        | inl same ↦ subst I (sym same) task
        | inr w ↦
            let waits : IsWaiting pending test t w.seat w.runner = subst I w.waited task in
            let bodies = bodies_on pending test in
            let v = view w.seat in
            let x = view w.back in
            let served = w.served (pending_of bodies) waits.runs in
            let of : HasSeat test.lock.now w.back = (
              w.table ∙ (waits.seat_is).of.0,
              making-along (first_book test.lock.now) v.seen x.seen (waits.seat_is).of.1
                  (served.within).making,
            ) in
            let own = own-serves pending (pending_of bodies) t w.runner v waits.runs in
            let is : IsTask pending test t (Served w.back) = (
              record {
                of = of;
                outside = outside-served (pending_of bodies) v x
                    (waits.seat_is).outside served;
              },
              served-thread bodies t v x served own,
            ) in
            subst I (sym w.is) is
      ]

  pub back-tasks : (tests : List (RunningTest P B)) (before after : List (Task P B policy))
      → AreTasks pending tests t before → AreBack pending t before after
      → AreTasks pending tests t after
  back-tasks tests before after tasks back = record {
    long = back.long ∙ tasks.long;
    each = λ i test task here there.
        let was = get-within before i
        (let under = slice_get_within tests i test here in omega (arith, under, tasks.long)) in
        back-task test was.0 task (tasks.each i test was.0 here was.1)
        (back.each i was.0 task was.1 there);
  }
