-- Each choice says itself.
use Rattle.std.proofs.Common.{sym}
use Rattle.pct_c.specs.Books.{state_of}
use Rattle.pct_c.proofs.Turned.{none-by, says-turn, says-waits, says-nothing}
use Rattle.pct_c.proofs.turn.turn_on.Goals as goal

pub returns-in-Some-clause-choice : goal.returns-in-Some-clause-choice
returns-in-Some-clause-choice c =
    let s = state_of c.args.book.now in
    let its = (c.granted.ensures c.in-Some.thread).0 c.in-Some.is in
    says-turn s c.turn-in-Some.result c.in-Some.thread c.turn-in-Some.ensures.choice
    c.turn-in-Some.ensures.thread its.0 its.1

pub returns-in-Some-awaited-clause-choice : goal.returns-in-Some-awaited-clause-choice
returns-in-Some-awaited-clause-choice c =
    let s = state_of c.args.book.now in
    let its = (c.awaited.ensures c.in-Some-awaited.thread).0 c.in-Some-awaited.is in
    says-waits s c.turn-in-Some-awaited.result c.in-Some-awaited.thread
    c.turn-in-Some-awaited.ensures.choice c.turn-in-Some-awaited.ensures.thread its.0 its.1

pub returns-in-None-clause-choice : goal.returns-in-None-clause-choice
returns-in-None-clause-choice c =
    let s = state_of c.args.book.now in
    let running = none-by s.outcome c.is_over.result c.is_over.ensures c.if-is_over.false in
    says-nothing s c.turn-in-None.result c.turn-in-None.ensures.choice running
    (λ u chosen. c.in_default.not-Some u ((c.granted.ensures u).1 (running, chosen)))
    (λ u chosen. let both = sym c.in-None.is in
    let some = (c.awaited.ensures u).1 (running, chosen) in absurd cc)
