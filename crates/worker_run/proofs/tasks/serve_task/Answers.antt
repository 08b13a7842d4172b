use Rattle.std.proofs.Common.{refl, sym, subst, ◌∙◌, inl, inr}
use Rattle.turn_lock.specs.Views.{view}
use Rattle.pct_ask.specs.Bodies.{pending_of}
use Rattle.worker_run.specs.Batch.{bodies_on, IsTask, IsWaiting}
use Rattle.worker_run.specs.declared.batch.Task.{Task}
use Rattle.worker_run.proofs.Shares.{own-serves}
use Rattle.worker_run.proofs.ServedThreads.{outside-served, served-thread}
use Rattle.worker_run.proofs.tasks.serve_task.Goals as goal

pub serve-requires-clause-of : goal.serve-requires-clause-of
serve-requires-clause-of g c = λ κs lives.
    let f = g.B.Body.pending in
    let test = c.args.test.now in
    let I : Task g.row.P.Denot g.row.B.Denot g.P.Policy → Type 0 =
    λ p. IsTask f test c.args.thread p in
    let waits : IsWaiting f test c.args.thread c.in-Waiting.seat c.in-Waiting.runner =
    subst I (sym c.replace.ensures.value ∙ c.in-Waiting.is) c.requires.task in
    waits.seat_is.of

pub serve-requires-clause-share : goal.serve-requires-clause-share
serve-requires-clause-share g c = λ κs lives.
    let f = g.B.Body.pending in
    let test = c.args.test.now in
    let I : Task g.row.P.Denot g.row.B.Denot g.P.Policy → Type 0 =
    λ p. IsTask f test c.args.thread p in
    let waits : IsWaiting f test c.args.thread c.in-Waiting.seat c.in-Waiting.runner =
    subst I (sym c.replace.ensures.value ∙ c.in-Waiting.is) c.requires.task in
    (pending_of (bodies_on f test), waits.test_is.in_range, waits.runs)

pub serve-requires-clause-owe : goal.serve-requires-clause-owe
serve-requires-clause-owe g c = λ κs lives.
    let f = g.B.Body.pending in
    let test = c.args.test.now in
    let I : Task g.row.P.Denot g.row.B.Denot g.P.Policy → Type 0 =
    λ p. IsTask f test c.args.thread p in
    let waits : IsWaiting f test c.args.thread c.in-Waiting.seat c.in-Waiting.runner =
    subst I (sym c.replace.ensures.value ∙ c.in-Waiting.is) c.requires.task in
    waits.owe

pub returns-in-Waiting-clause-served : goal.returns-in-Waiting-clause-served
returns-in-Waiting-clause-served g c =
    let f = g.B.Body.pending in
    let test = c.args.test.now in
    let start = pending_of (bodies_on f test) in
    let v = view c.in-Waiting.seat in
    let w = view c.serve.result in
    let I : Task g.row.P.Denot g.row.B.Denot g.P.Policy → Type 0 =
    λ p. IsTask f test c.args.thread p in
    let waits : IsWaiting f test c.args.thread c.in-Waiting.seat c.in-Waiting.runner =
    subst I (sym c.replace.ensures.value ∙ c.in-Waiting.is) c.requires.task in
    let served = c.serve.ensures.served start waits.runs in (
      record {
        of = c.serve.ensures.of;
        outside = outside-served start v w waits.seat_is.outside served;
      },
      served-thread (bodies_on f test) c.args.thread v w served
          (own-serves f start c.args.thread c.in-Waiting.runner v waits.runs),
    )

pub returns-in-Waiting-clause-back : goal.returns-in-Waiting-clause-back
returns-in-Waiting-clause-back g c =
    let f = g.B.Body.pending in
    let test = c.args.test.now in
    let I : Task g.row.P.Denot g.row.B.Denot g.P.Policy → Type 0 =
    λ p. IsTask f test c.args.thread p in
    let before = sym c.replace.ensures.value ∙ c.in-Waiting.is in
    let waits : IsWaiting f test c.args.thread c.in-Waiting.seat c.in-Waiting.runner =
    subst I before c.requires.task in
    inr (record {
      seat = c.in-Waiting.seat;
      runner = c.in-Waiting.runner;
      back = c.serve.result;
      waited = before;
      is = refl;
      table = c.serve.ensures.of.0 ∙ sym (waits.seat_is).of.0;
      served = c.serve.ensures.served;
    })

pub returns-in-Absent-clause-back : goal.returns-in-Absent-clause-back
returns-in-Absent-clause-back g c =
    inl (c.replace.ensures.after ∙ sym (sym c.replace.ensures.value ∙ c.in-Absent.is))

pub returns-in-Served-clause-back : goal.returns-in-Served-clause-back
returns-in-Served-clause-back g c = inl (sym (sym c.replace.ensures.value ∙ c.in-Served.is))
