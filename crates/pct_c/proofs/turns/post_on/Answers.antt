-- Where no post stands.
use Rattle.std.proofs.Common.{sym, ◌∙◌}
use Rattle.pct_c.specs.Books.{state_of}
use Rattle.pct_c.proofs.Turned.{posts-over, posts-bad}
use Rattle.pct_c.proofs.turns.post_on.Goals as goal

pub returns-then-is_over : goal.returns-then-is_over
returns-then-is_over c =
    posts-over c.args.thread c.args.line c.args.numbers.now c.turn_on.result
    (state_of c.args.book.now) c.turn_on.ensures.status c.turn_on.ensures.answer
    c.turn_on.ensures.choice c.turn_on.ensures.lawful
    (sym c.is_over.ensures ∙ c.if-is_over.true)

pub returns-in-None : goal.returns-in-None
returns-in-None c =
    posts-bad c.args.thread c.args.line c.args.numbers.now c.turn_on-in-None.result
    (state_of c.args.book.now) c.turn_on-in-None.ensures.status c.turn_on-in-None.ensures.answer
    c.turn_on-in-None.ensures.choice c.turn_on-in-None.ensures.lawful
    (c.post_of.ensures.may_not c.in-None.is)
