use Rattle.std.proofs.Common.{List, Option, length, sym, ap, subst, arith}
use Rattle.turn_lock.specs.Calls.{first_book}
use Rattle.turn_lock.specs.Views.{view}
use Rattle.pct_ask.specs.Bodies.{pending_of}
use Rattle.worker_run.specs.Served.{IsShare}
use Rattle.worker_run.specs.Batch.{bodies_on}
use Rattle.worker_run.specs.declared.runner.Runner.{Runner}
use Rattle.worker_run.proofs.ServedThreads.{outside-served, told-share}
use Rattle.worker_run.proofs.tasks.serve_share.Goals as goal

pub serve_all-requires-clause-share : goal.serve_all-requires-clause-share
serve_all-requires-clause-share g c = λ κs lives.
    let f = g.B.Body.pending in
    let start = pending_of (bodies_on f c.args.test.now) in
    let C : List (Option (Runner g.row.B.Denot)) → Type 0 =
    λ l. IsShare f start 0 l (view c.args.share.now.seat) in (
      start,
      c.requires.share.test_is.in_range,
      subst C (sym c.as_mut_slice.ensures.value) c.requires.share.runs,
    )

pub serve_all-requires-clause-few : goal.serve_all-requires-clause-few
serve_all-requires-clause-few g c = λ κs lives.
    let few = (first_book c.args.test.now.lock.now).deal.few_threads in
    omega (arith, ap length c.as_mut_slice.ensures.value, c.requires.share.long)

pub returns-clause-seat : goal.returns-clause-seat
returns-clause-seat g c =
    let f = g.B.Body.pending in
    let start = pending_of (bodies_on f c.args.test.now) in
    let C : List (Option (Runner g.row.B.Denot)) → Type 0 =
    λ l. IsShare f start 0 l (view c.args.share.now.seat) in
    let share = subst C (sym c.as_mut_slice.ensures.value) c.requires.share.runs in
    record {
      of = c.serve_all.ensures.of;
      outside =
          outside-served start (view c.args.share.now.seat) (view c.serve_all.new.seat)
          c.requires.share.seat_is.outside (c.serve_all.ensures.served start share);
    }

pub returns-clause-told : goal.returns-clause-told
returns-clause-told g c = λ t here.
    let f = g.B.Body.pending in
    let start = pending_of (bodies_on f c.args.test.now) in
    let C : List (Option (Runner g.row.B.Denot)) → Type 0 =
    λ l. IsShare f start 0 l (view c.args.share.now.seat) in
    let share = subst C (sym c.as_mut_slice.ensures.value) c.requires.share.runs in
    told-share (bodies_on f c.args.test.now) t (view c.args.share.now.seat)
    (view c.serve_all.new.seat) (c.serve_all.ensures.served start share)
    (c.serve_all.ensures.lawful t here) here
