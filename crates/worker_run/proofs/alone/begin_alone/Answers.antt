use Rattle.std.proofs.Common.{◌<◌, ◌+◌, Option, List, length, sym, subst, ◌∙◌, arith}
use Rattle.turn_book.specs.Told.{BookState, SameMaking}
use Rattle.turn_lock.specs.Rule.{first_view}
use Rattle.worker_run.specs.declared.runner.Runner.{Runner}
use Rattle.worker_run.proofs.Shares.{IsBegun, begun-first, begun-none, begun-more, begun-share}
use Rattle.worker_run.proofs.Shares.{begun-all, on-along, serves-on, runner-read, none-read}
use Rattle.worker_run.proofs.Shares.{set-read}
use Rattle.turn_lock.proofs.laws.SeenBooks.{making-self, making-along}
use Rattle.pct_ask.specs.declared.Deal.{Deal}
use Rattle.pct_ask.specs.Objects.{sizes_of_deal}
use Rattle.pct_ask.specs.Bodies.{IsInRangeBody}
use Rattle.worker_run.proofs.alone.begin_alone.Goals as goal
use Rattle.worker_run.proofs.alone.begin_alone.Goals.{in-Some+else-speak_alone, in_default}

pub loop-index-init : goal.loop-index-init
loop-index-init g c = record {
  of = making-self c.args.book.now;
  begun = begun-first g.B.Body.pending c.args.runners.now
      (first_view c.args.book.now) c.requires.owe;
}

pub speak_alone-requires-clause-serves : goal.speak_alone-requires-clause-serves
speak_alone-requires-clause-serves g c = λ κs lives.
    let index = c.loop-index.index in
    let share = c.loop-index.invariant.begun.share c.requires.share.0 c.requires.share.2 in
    let at = runner-read c.loop-index.runners index c.index-runners-index.result c.in-Some.runner
    (omega (arith, c.loop-index-test.true, c.loop-index.auto.runners)) c.in-Some.is in
    (share.running index index c.in-Some.runner (omega arith) at).0

pub speak_alone-requires-clause-owes : goal.speak_alone-requires-clause-owes
speak_alone-requires-clause-owes g c = λ κs lives.
    let index = c.loop-index.index in
    let share = c.loop-index.invariant.begun.share c.requires.share.0 c.requires.share.2 in
    let at = runner-read c.loop-index.runners index c.index-runners-index.result c.in-Some.runner
    (omega (arith, c.loop-index-test.true, c.loop-index.auto.runners)) c.in-Some.is in
    c.loop-index.invariant.begun.owe index
    (share.running index index c.in-Some.runner (omega arith) at).0 (omega arith)

pub speak_alone-requires-clause-runs : goal.speak_alone-requires-clause-runs
speak_alone-requires-clause-runs g c = λ κs lives.
    let index = c.loop-index.index in
    let share = c.loop-index.invariant.begun.share c.requires.share.0 c.requires.share.2 in
    let at = runner-read c.loop-index.runners index c.index-runners-index.result c.in-Some.runner
    (omega (arith, c.loop-index-test.true, c.loop-index.auto.runners)) c.in-Some.is in (
      c.requires.share.0 index,
      (let R : Deal → Type 0 = λ d.
          IsInRangeBody (sizes_of_deal d) (c.requires.share.0 index) in
          subst R (sym c.loop-index.invariant.of.deal) (c.requires.share.1 index)),
      (share.running index index c.in-Some.runner (omega arith) at).1,
    )

pub returns-then-speak_alone-clause-share : goal.returns-then-speak_alone-clause-share
returns-then-speak_alone-clause-share g c =
    let index = c.loop-index.index in
    let at = runner-read c.loop-index.runners index c.index-runners-index.result c.in-Some.runner
    (omega (arith, c.loop-index-test.true, c.loop-index.auto.runners)) c.in-Some.is in
    begun-share g.B.Body.pending c.args.runners.now (first_view c.args.book.now) index
    c.loop-index.runners
    (first_view c.loop-index.book) c.loop-index.invariant.begun (first_view c.speak_alone.new.book)
    c.in-Some.runner c.speak_alone.new.self at c.speak_alone.ensures.moves
    c.speak_alone.ensures.runs

pub returns-then-speak_alone-clause-on : goal.returns-then-speak_alone-clause-on
returns-then-speak_alone-clause-on g c =
    on-along (first_view c.args.book.now) (first_view c.loop-index.book)
    (first_view c.speak_alone.new.book)
    c.loop-index.invariant.begun.on c.speak_alone.ensures.moves.on

pub returns-then-speak_alone-clause-of : goal.returns-then-speak_alone-clause-of
returns-then-speak_alone-clause-of g c =
    making-along c.args.book.now c.loop-index.book c.speak_alone.new.book
    c.loop-index.invariant.of c.speak_alone.ensures.of

pub loop-index-preserved : goal.loop-index-preserved
loop-index-preserved g c =
    let index = c.loop-index.index in
    let runners = c.loop-index.runners in
    let begun = c.loop-index.invariant.begun in
    let within : index < length runners =
    omega (arith, c.loop-index-test.true, c.loop-index.auto.runners) in
    let O : BookState → Type 0 = λ s. SameMaking c.args.book.now s in
    let B : List (Option (Runner g.row.B.Denot)) × BookState → Type 0 =
    λ x. IsBegun g.B.Body.pending c.args.runners.now (first_view c.args.book.now) (index + 1) x.0
    (first_view x.1) in
    elim c.match-runners-index.branch [
      | in-Some+else-speak_alone w ↦
          let at = runner-read runners index c.index-runners-index.result w.in-Some.runner within
          w.in-Some.is in
          let more = begun-more g.B.Body.pending c.args.runners.now (first_view c.args.book.now)
          index
          runners (first_view c.loop-index.book) begun (first_view w.speak_alone.new.book)
          w.in-Some.runner
          w.speak_alone.new.self at w.speak_alone.ensures.moves w.speak_alone.ensures.runs
          w.speak_alone.ensures.lawful
          (w.speak_alone.ensures.posted w.if-speak_alone.false) in
          record {
            of = subst O (sym w.book-is) (making-along c.args.book.now c.loop-index.book
                w.speak_alone.new.book c.loop-index.invariant.of w.speak_alone.ensures.of);
            begun = subst B (λ i. (sym w.runners-is i, sym w.book-is i)) more;
          }
      | in_default w ↦
          let none = none-read runners index c.index-runners-index.result within
          w.in_default.not-Some in
          let more = begun-none g.B.Body.pending c.args.runners.now (first_view c.args.book.now)
          index
          runners (first_view c.loop-index.book) begun c.requires.share.0 c.requires.share.2 none in
          record {
            of = subst O (sym w.book-is) c.loop-index.invariant.of;
            begun = subst B (λ i. (
              sym (w.runners-is
                  ∙ set-read runners index c.index-runners-index.result) i,
              sym w.book-is i,
            )) more;
          }
    ]

pub returns : goal.returns
returns g c =
    let begun = c.loop-index.invariant.begun in
    let all = begun-all g.B.Body.pending c.args.runners.now (first_view c.args.book.now)
    c.loop-index.index c.loop-index.runners (first_view c.loop-index.book) begun c.requires.share.0
    c.requires.share.2 c.loop-index-test.false in
    record {
      of = c.loop-index.invariant.of;
      share = begun.share;
      on = begun.on;
      runners = begun.long;
      lawful =
          λ t here. (let there = serves-on (first_view c.args.book.now)
          (first_view c.loop-index.book) t
          begun.on here in begun.lawful t there (all t there));
      over = λ e. absurd cc;
      posted = λ e t here. begun.posted t here (all t here);
    }
