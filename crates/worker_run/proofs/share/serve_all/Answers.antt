use Rattle.std.proofs.Common.{sym, subst, arith, inl}
use Rattle.turn_lock.specs.Views.{view}
use Rattle.turn_lock.specs.declared.seat.Seat.{Seat}
use Rattle.turn_book.specs.Told.{IsLawful}
use Rattle.worker_run.specs.Served.{IsServed}
use Rattle.worker_run.proofs.Shares.{serves-on, nobody-serves, served-nobody, share-served}
use Rattle.worker_run.proofs.Shares.{served-on}
use Rattle.worker_run.proofs.share.serve_all.Goals as goal
use Rattle.worker_run.proofs.share.serve_all.Goals.{then-not-has_runner-via-then-not-has_runner}
use Rattle.worker_run.proofs.share.serve_all.Goals.{then-not-has_runner-via-else-not-has_runner+then-begin}

pub returns-then-not-has_runner-clause-served : goal.returns-then-not-has_runner-clause-served
returns-then-not-has_runner-clause-served g c = λ start share.
    let first = view c.args.seat.now in
    let S : Seat g.row.P.Denot g.P.Policy → Type 0 = λ s. IsServed start first (view s) in
    elim c.then-not-has_runner.branch [
      | then-not-has_runner-via-then-not-has_runner w ↦
          subst S (sym w.seat-is) (served-nobody start first
          (nobody-serves g.B.Body.pending start c.args.runners.now first share
          (c.has_runner.ensures.none w.if-not-has_runner.true)))
      | then-not-has_runner-via-else-not-has_runner+then-begin w ↦
          let some = c.has_runner.ensures.some w.if-not-has_runner.false in
          let here = (share.running some.0 some.0 some.1 (omega arith) some.2).0 in
          subst S (sym w.seat-is) (share-served g.B.Body.pending start w.begin.new.runners first
          (view w.begin.new.seat) w.begin.ensures.on (w.begin.ensures.lawful some.0 here)
          (w.begin.ensures.share start share) (inl (w.begin.ensures.over w.if-begin.true)))
    ]

pub returns-then-not-has_runner-clause-lawful : goal.returns-then-not-has_runner-clause-lawful
returns-then-not-has_runner-clause-lawful g c = λ t here.
    let L : Seat g.row.P.Denot g.P.Policy → Type 0 = λ s. IsLawful (view s).seen in
    elim c.then-not-has_runner.branch [
      | then-not-has_runner-via-then-not-has_runner w ↦
          absurd (nobody-serves g.B.Body.pending c.requires.share.0 c.args.runners.now
          (view c.args.seat.now) c.requires.share.2
          (c.has_runner.ensures.none w.if-not-has_runner.true) t here)
      | then-not-has_runner-via-else-not-has_runner+then-begin w ↦
          subst L (sym w.seat-is) (w.begin.ensures.lawful t here)
    ]

pub take_turns-requires-clause-share : goal.take_turns-requires-clause-share
take_turns-requires-clause-share g c =
    λ κs lives. (
      c.requires.share.0,
      c.requires.share.1,
      c.begin.ensures.share c.requires.share.0 c.requires.share.2,
    )

pub take_turns-requires-clause-some : goal.take_turns-requires-clause-some
take_turns-requires-clause-some g c = λ κs lives.
    let some = c.has_runner.ensures.some c.if-not-has_runner.false in (
      some.0,
      serves-on (view c.args.seat.now) (view c.begin.new.seat) some.0 c.begin.ensures.on
          (c.requires.share.2.running some.0 some.0 some.1 (omega arith) some.2).0,
    )

pub returns-clause-served : goal.returns-clause-served
returns-clause-served g c = λ start share.
    let some = c.has_runner.ensures.some c.if-not-has_runner.false in
    let here = (share.running some.0 some.0 some.1 (omega arith) some.2).0 in
    served-on start (view c.args.seat.now) (view c.begin.new.seat) (view c.take_turns.new.seat)
    c.begin.ensures.on (c.begin.ensures.lawful some.0 here)
    (c.take_turns.ensures.served start (c.begin.ensures.share start share))
