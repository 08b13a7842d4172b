use Rattle.std.proofs.Common.{refl, sym, subst, ◌∙◌, inl}
use Rattle.turn_lock.specs.Views.{view}
use Rattle.pct_ask.specs.Bodies.{pending_of}
use Rattle.worker_run.specs.Batch.{bodies_on, IsTask, IsWaiting}
use Rattle.worker_run.specs.declared.batch.Task.{Task}
use Rattle.worker_run.proofs.Shares.{own-serves}
use Rattle.turn_lock.proofs.laws.Serving.{joined-left, joined-right}
use Rattle.worker_run.proofs.SplitSeats.{IsJoin}
use Rattle.worker_run.proofs.TakenTasks.{taken-in}
use Rattle.worker_run.proofs.tasks.take_task.Goals as goal

pub returns-in-Waiting-clause-share : goal.returns-in-Waiting-clause-share
returns-in-Waiting-clause-share g c =
    let f = g.B.Body.pending in
    let test = c.args.test.now in
    let I : Task g.row.P.Denot g.row.B.Denot g.P.Policy → Type 0 =
    λ p. IsTask f test c.args.thread p in
    let waits : IsWaiting f test c.args.thread c.in-Waiting.seat c.in-Waiting.runner =
    subst I (sym c.replace.ensures.value ∙ c.in-Waiting.is) c.requires.task in
    let j : IsJoin (view c.args.share.now.seat) (view c.in-Waiting.seat) (view c.join.new.seat) =
    record {
      is = c.join.ensures.view;
      seen = c.join.ensures.seen;
      own = c.join.ensures.own;
      theirs = c.join.ensures.theirs;
      obeys = c.join.ensures.obeys;
    } in
    taken-in f test c.args.share.now c.requires.share c.args.thread c.in-Waiting.runner
    c.in-Waiting.seat waits _ c.join.ensures.of j refl

pub returns-in-Waiting-clause-kept : goal.returns-in-Waiting-clause-kept
returns-in-Waiting-clause-kept g c =
    λ t here. joined-left (view c.args.share.now.seat) (view c.in-Waiting.seat)
    (view c.join.new.seat) t c.join.ensures.view here

pub returns-in-Waiting-clause-taken : goal.returns-in-Waiting-clause-taken
returns-in-Waiting-clause-taken g c = λ there.
    let f = g.B.Body.pending in
    let test = c.args.test.now in
    let I : Task g.row.P.Denot g.row.B.Denot g.P.Policy → Type 0 =
    λ p. IsTask f test c.args.thread p in
    let waits : IsWaiting f test c.args.thread c.in-Waiting.seat c.in-Waiting.runner =
    subst I (sym c.replace.ensures.value ∙ c.in-Waiting.is) c.requires.task in
    inl (joined-right (view c.args.share.now.seat) (view c.in-Waiting.seat) (view c.join.new.seat)
    c.args.thread c.join.ensures.view
    (own-serves f (pending_of (bodies_on f test)) c.args.thread c.in-Waiting.runner
    (view c.in-Waiting.seat) waits.runs))
