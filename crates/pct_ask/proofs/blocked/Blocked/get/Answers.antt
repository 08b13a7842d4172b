-- A thread's line stands at its place where its bit is set, and past the last place there is none.
use Rattle.std.proofs.Common.{◌≤◌, length, None, sym, ◌∙◌, arith}
use Rattle.std.proofs.lemmas.List.{get_or_past}
use Rattle.pct_ask.specs.Places.{known_lines}
use Rattle.pct_ask.specs.PlaceLaws.{length-known}
use Rattle.pct_ask.proofs.PlaceLemmas.{line_of_thread-places, line_of_thread-set}
use Rattle.pct_ask.proofs.PlaceLemmas.{line_of_thread-clear}
use Rattle.pct_ask.proofs.PlaceLemmas.{AreRising-known}
use Rattle.pct_ask.proofs.blocked.Blocked.get.Goals as goal

pub returns-then-thread-clause-line : goal.returns-then-thread-clause-line
returns-then-thread-clause-line c =
    let lines = known_lines c.self.inside.threads c.self.inside.lines in
    let long = length-known c.self.inside.threads c.self.inside.lines ∙ c.self.invariant.long in
    let past : length lines ≤ c.args.thread = omega (arith, long) in
    rw (← c.self.view_is) (sym (get_or_past lines c.args.thread None past)
    ∙ line_of_thread-places c.args.thread 0 c.args.thread lines (omega arith))

pub returns-then-threads-thread-eq1-clause-line : goal.returns-then-threads-thread-eq1-clause-line
returns-then-threads-thread-eq1-clause-line c =
    line_of_thread-set c.self.inside.threads c.args.thread c.self.inside.lines c.args.self.now
    (omega (arith, c.self.invariant.long)) c.self.view_is c.if-threads-thread-eq1.true

pub returns-else-threads-thread-eq1-clause-line : goal.returns-else-threads-thread-eq1-clause-line
returns-else-threads-thread-eq1-clause-line c =
    line_of_thread-clear c.self.inside.threads c.args.thread c.self.inside.lines c.args.self.now
    (omega (arith, c.self.invariant.long)) c.self.view_is c.if-threads-thread-eq1.false

pub returns-then-thread-clause-rising : goal.returns-then-thread-clause-rising
returns-then-thread-clause-rising c =
    AreRising-known c.self.inside.threads c.self.inside.lines c.args.self.now c.self.invariant
    c.self.view_is

pub returns-then-threads-thread-eq1-clause-rising :
    goal.returns-then-threads-thread-eq1-clause-rising
returns-then-threads-thread-eq1-clause-rising c =
    AreRising-known c.self.inside.threads c.self.inside.lines c.args.self.now c.self.invariant
    c.self.view_is

pub returns-else-threads-thread-eq1-clause-rising :
    goal.returns-else-threads-thread-eq1-clause-rising
returns-else-threads-thread-eq1-clause-rising c =
    AreRising-known c.self.inside.threads c.self.inside.lines c.args.self.now c.self.invariant
    c.self.view_is
