-- Refused, taken, or posted.
use Rattle.std.proofs.Common.{sym, ◌∙◌}
use Rattle.std.proofs.lemmas.Bool.{false≢true}
use Rattle.pct_c.specs.Books.{state_of}
use Rattle.pct_c.proofs.Turned.{steps-taken, steps-posted, steps-refused}
use Rattle.pct_c.proofs.turns.step_on.Goals as goal

pub returns-then-posted-ne-DONE : goal.returns-then-posted-ne-DONE
returns-then-posted-ne-DONE c =
    steps-refused c.args.thread c.args.line c.args.numbers.now c.post_on-posted.result
    (state_of c.args.book.now) (state_of c.post_on-posted.new.book) c.post_on-posted.ensures
    c.if-posted-ne-DONE.true

pub returns-then-may_step : goal.returns-then-may_step
returns-then-may_step c =
    let may = c.may_step.ensures.0 c.if-may_step.true in
    steps-taken c.args.thread c.args.line c.args.numbers.now c.post_on-posted.result
    c.take_on.result (state_of c.args.book.now) (state_of c.post_on-posted.new.book)
    (state_of c.take_on.new.book) c.post_on-posted.ensures c.if-posted-ne-DONE.false may.0 may.1
    c.take_on.ensures

pub returns-else-may_step : goal.returns-else-may_step
returns-else-may_step c =
    steps-posted c.args.thread c.args.line c.args.numbers.now c.post_on-posted.result
    c.turn_on.result (state_of c.args.book.now) (state_of c.post_on-posted.new.book)
    c.post_on-posted.ensures c.if-posted-ne-DONE.false c.turn_on.ensures.status
    c.turn_on.ensures.answer c.turn_on.ensures.choice
    (λ may. false≢true (sym c.if-may_step.false ∙ c.may_step.ensures.1 may))
