use Rattle.std.proofs.Common.{sym, subst, arith, inl}
use Rattle.pct_ask.specs.declared.Deal.{Deal}
use Rattle.pct_ask.specs.Objects.{sizes_of_deal}
use Rattle.pct_ask.specs.Bodies.{IsInRangeBody}
use Rattle.turn_lock.specs.Rule.{first_view}
use Rattle.turn_lock.proofs.laws.FirstThreads.{first-has}
use Rattle.turn_lock.proofs.laws.SeenBooks.{making-along}
use Rattle.worker_run.proofs.Shares.{share-served, served-on}
use Rattle.worker_run.proofs.alone.serve_alone.Goals as goal

pub returns-then-begin_alone-clause-served : goal.returns-then-begin_alone-clause-served
returns-then-begin_alone-clause-served g c = λ start share.
    let some = c.args.book.now.deal.some_thread in
    let here = first-has c.args.book.now.deal.threads 0 (omega arith) in
    share-served g.B.Body.pending start c.begin_alone.new.runners (first_view c.args.book.now)
    (first_view c.begin_alone.new.book) c.begin_alone.ensures.on
    (c.begin_alone.ensures.lawful 0 here) (c.begin_alone.ensures.share start share)
    (inl (c.begin_alone.ensures.over c.if-begin_alone.true))

pub take_turns_alone-requires-clause-share : goal.take_turns_alone-requires-clause-share
take_turns_alone-requires-clause-share g c = λ κs lives. (
  c.requires.share.0,
  λ t.
      let R : Deal → Type 0 = λ d. IsInRangeBody (sizes_of_deal d) (c.requires.share.0 t) in
      subst R (sym c.begin_alone.ensures.of.deal) (c.requires.share.1 t),
  c.begin_alone.ensures.share c.requires.share.0 c.requires.share.2,
)

pub returns-clause-of : goal.returns-clause-of
returns-clause-of g c =
    making-along c.args.book.now c.begin_alone.new.book c.take_turns_alone.new.book
    c.begin_alone.ensures.of c.take_turns_alone.ensures.of

pub returns-clause-served : goal.returns-clause-served
returns-clause-served g c = λ start share.
    let some = c.args.book.now.deal.some_thread in
    let here = first-has c.args.book.now.deal.threads 0 (omega arith) in
    served-on start (first_view c.args.book.now) (first_view c.begin_alone.new.book)
    (first_view c.take_turns_alone.new.book) c.begin_alone.ensures.on
    (c.begin_alone.ensures.lawful 0 here)
    (c.take_turns_alone.ensures.served start (c.begin_alone.ensures.share start share))
