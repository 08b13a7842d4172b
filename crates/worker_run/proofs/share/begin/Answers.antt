use Rattle.std.proofs.Common.{◌<◌, ◌+◌, Option, List, length, sym, subst, ◌∙◌, arith}
use Rattle.turn_lock.specs.Views.{view, HasSeat}
use Rattle.turn_lock.specs.declared.seat.Seat.{Seat}
use Rattle.worker_run.specs.declared.runner.Runner.{Runner}
use Rattle.worker_run.proofs.Shares.{IsBegun, begun-first, begun-none, begun-more, begun-share}
use Rattle.worker_run.proofs.Shares.{begun-all, on-along, serves-on, runner-read, none-read}
use Rattle.worker_run.proofs.Shares.{set-read}
use Rattle.worker_run.proofs.share.begin.Goals as goal
use Rattle.worker_run.proofs.share.begin.Goals.{in-Some+else-speak, in_default}

pub loop-index-init : goal.loop-index-init
loop-index-init g c = record {
  of = c.requires.of;
  begun = begun-first g.B.Body.pending c.args.runners.now
      (view c.args.seat.now) c.requires.owe;
}

pub speak-requires-clause-serves : goal.speak-requires-clause-serves
speak-requires-clause-serves g c = λ κs lives.
    let index = c.loop-index.index in
    let share = c.loop-index.invariant.begun.share c.requires.share.0 c.requires.share.2 in
    let at = runner-read c.loop-index.runners index c.index-runners-index.result c.in-Some.runner
    (omega (arith, c.loop-index-test.true, c.loop-index.auto.runners)) c.in-Some.is in
    (share.running index index c.in-Some.runner (omega arith) at).0

pub speak-requires-clause-owes : goal.speak-requires-clause-owes
speak-requires-clause-owes g c = λ κs lives.
    let index = c.loop-index.index in
    let share = c.loop-index.invariant.begun.share c.requires.share.0 c.requires.share.2 in
    let at = runner-read c.loop-index.runners index c.index-runners-index.result c.in-Some.runner
    (omega (arith, c.loop-index-test.true, c.loop-index.auto.runners)) c.in-Some.is in
    c.loop-index.invariant.begun.owe index
    (share.running index index c.in-Some.runner (omega arith) at).0 (omega arith)

pub speak-requires-clause-runs : goal.speak-requires-clause-runs
speak-requires-clause-runs g c = λ κs lives.
    let index = c.loop-index.index in
    let share = c.loop-index.invariant.begun.share c.requires.share.0 c.requires.share.2 in
    let at = runner-read c.loop-index.runners index c.index-runners-index.result c.in-Some.runner
    (omega (arith, c.loop-index-test.true, c.loop-index.auto.runners)) c.in-Some.is in (
      c.requires.share.0 index,
      c.requires.share.1 index,
      (share.running index index c.in-Some.runner (omega arith) at).1,
    )

pub returns-then-speak-clause-share : goal.returns-then-speak-clause-share
returns-then-speak-clause-share g c =
    let index = c.loop-index.index in
    let at = runner-read c.loop-index.runners index c.index-runners-index.result c.in-Some.runner
    (omega (arith, c.loop-index-test.true, c.loop-index.auto.runners)) c.in-Some.is in
    begun-share g.B.Body.pending c.args.runners.now (view c.args.seat.now) index
    c.loop-index.runners
    (view c.loop-index.seat) c.loop-index.invariant.begun (view c.speak.new.seat)
    c.in-Some.runner c.speak.new.self at c.speak.ensures.moves c.speak.ensures.runs

pub returns-then-speak-clause-on : goal.returns-then-speak-clause-on
returns-then-speak-clause-on g c =
    on-along (view c.args.seat.now) (view c.loop-index.seat) (view c.speak.new.seat)
    c.loop-index.invariant.begun.on c.speak.ensures.moves.on

pub loop-index-preserved : goal.loop-index-preserved
loop-index-preserved g c =
    let index = c.loop-index.index in
    let runners = c.loop-index.runners in
    let begun = c.loop-index.invariant.begun in
    let within : index < length runners =
    omega (arith, c.loop-index-test.true, c.loop-index.auto.runners) in
    let O : Seat g.row.P.Denot g.P.Policy → Type 0 = λ s. HasSeat c.args.lock.now s in
    let B : List (Option (Runner g.row.B.Denot)) × Seat g.row.P.Denot g.P.Policy → Type 0 =
    λ x. IsBegun g.B.Body.pending c.args.runners.now (view c.args.seat.now) (index + 1) x.0
    (view x.1) in
    elim c.match-runners-index.branch [
      | in-Some+else-speak w ↦
          let at = runner-read runners index c.index-runners-index.result w.in-Some.runner within
          w.in-Some.is in
          let more = begun-more g.B.Body.pending c.args.runners.now (view c.args.seat.now) index
          runners (view c.loop-index.seat) begun (view w.speak.new.seat) w.in-Some.runner
          w.speak.new.self at w.speak.ensures.moves w.speak.ensures.runs w.speak.ensures.lawful
          (w.speak.ensures.posted w.if-speak.false) in
          record {
            of = subst O (sym w.seat-is) w.speak.ensures.of;
            begun = subst B (λ i. (sym w.runners-is i, sym w.seat-is i)) more;
          }
      | in_default w ↦
          let none = none-read runners index c.index-runners-index.result within
          w.in_default.not-Some in
          let more = begun-none g.B.Body.pending c.args.runners.now (view c.args.seat.now) index
          runners (view c.loop-index.seat) begun c.requires.share.0 c.requires.share.2 none in
          record {
            of = subst O (sym w.seat-is) c.loop-index.invariant.of;
            begun = subst B (λ i. (
              sym (w.runners-is
                  ∙ set-read runners index c.index-runners-index.result) i,
              sym w.seat-is i,
            )) more;
          }
    ]

pub returns : goal.returns
returns g c =
    let begun = c.loop-index.invariant.begun in
    let all = begun-all g.B.Body.pending c.args.runners.now (view c.args.seat.now)
    c.loop-index.index c.loop-index.runners (view c.loop-index.seat) begun c.requires.share.0
    c.requires.share.2 c.loop-index-test.false in
    record {
      of = c.loop-index.invariant.of;
      share = begun.share;
      on = begun.on;
      runners = begun.long;
      lawful =
          λ t here. (let there = serves-on (view c.args.seat.now) (view c.loop-index.seat) t
          begun.on here in begun.lawful t there (all t there));
      over = λ e. absurd cc;
      posted = λ e t here. begun.posted t here (all t here);
    }
