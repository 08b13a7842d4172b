use Rattle.std.proofs.Common.{sym, subst, ◌∙◌}
use Rattle.turn_lock.specs.Views.{view}
use Rattle.worker_run.specs.Batch.{IsServedTask, IsSeatOf, IsThreadServed, bodies_on}
use Rattle.worker_run.specs.declared.batch.Task.{Task}
use Rattle.worker_run.proofs.SplitSeats.{IsJoin}
use Rattle.worker_run.proofs.ServedThreads.{outside-joined, told-left, told-right}
use Rattle.worker_run.proofs.tasks.join_task.Goals as goal

pub returns-in-Served-clause-seat : goal.returns-in-Served-clause-seat
returns-in-Served-clause-seat g c =
    let f = g.B.Body.pending in
    let test = c.args.test.now in
    let I : Task g.row.P.Denot g.row.B.Denot g.P.Policy → Type 0 =
    λ p. IsServedTask f test c.requires.task.0 p in
    let served : IsSeatOf test.lock.now c.in-Served.seat
    × IsThreadServed (bodies_on f test) c.requires.task.0 (view c.in-Served.seat) =
    subst I (sym c.replace.ensures.value ∙ c.in-Served.is) c.requires.task.1 in
    let j : IsJoin (view c.args.share.now.seat) (view c.in-Served.seat) (view c.join.new.seat) =
    record {
      is = c.join.ensures.view;
      seen = c.join.ensures.seen;
      own = c.join.ensures.own;
      theirs = c.join.ensures.theirs;
      obeys = c.join.ensures.obeys;
    } in
    record {
      of = c.join.ensures.of;
      outside =
          outside-joined (view c.args.share.now.seat) (view c.in-Served.seat) (view c.join.new.seat)
          c.requires.seat.outside served.0.outside j;
    }

pub returns-in-Served-clause-kept : goal.returns-in-Served-clause-kept
returns-in-Served-clause-kept g c = λ t told.
    let j : IsJoin (view c.args.share.now.seat) (view c.in-Served.seat) (view c.join.new.seat) =
    record {
      is = c.join.ensures.view;
      seen = c.join.ensures.seen;
      own = c.join.ensures.own;
      theirs = c.join.ensures.theirs;
      obeys = c.join.ensures.obeys;
    } in
    told-left (bodies_on g.B.Body.pending c.args.test.now) t (view c.args.share.now.seat)
    (view c.in-Served.seat) (view c.join.new.seat) j told.served

pub returns-in-Served-clause-joined : goal.returns-in-Served-clause-joined
returns-in-Served-clause-joined g c = λ t is there.
    let f = g.B.Body.pending in
    let test = c.args.test.now in
    let I : Task g.row.P.Denot g.row.B.Denot g.P.Policy → Type 0 = λ p. IsServedTask f test t p in
    let served : IsSeatOf test.lock.now c.in-Served.seat
    × IsThreadServed (bodies_on f test) t (view c.in-Served.seat) =
    subst I (sym c.replace.ensures.value ∙ c.in-Served.is) is in
    let j : IsJoin (view c.args.share.now.seat) (view c.in-Served.seat) (view c.join.new.seat) =
    record {
      is = c.join.ensures.view;
      seen = c.join.ensures.seen;
      own = c.join.ensures.own;
      theirs = c.join.ensures.theirs;
      obeys = c.join.ensures.obeys;
    } in
    told-right (bodies_on f test) t (view c.args.share.now.seat) (view c.in-Served.seat)
    (view c.join.new.seat) j served.1
