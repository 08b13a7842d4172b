-- The thread whose turn it is, is the one.
use Rattle.pct_c.specs.Books.{state_of}
use Rattle.pct_c.proofs.Turned.{turn-is, turn-of-none}
use Rattle.pct_c.proofs.turns.has_turn.Goals as goal

pub returns-in-Some : goal.returns-in-Some
returns-in-Some c =
    turn-is (state_of c.args.book.now) c.granted.result c.in-Some.granted c.args.thread
    c.granted.ensures c.in-Some.is

pub returns-in-None : goal.returns-in-None
returns-in-None c =
    turn-of-none (state_of c.args.book.now) c.granted.result c.args.thread c.granted.ensures
    c.in-None.is
