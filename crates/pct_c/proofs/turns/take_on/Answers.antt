-- Each answer.
use Rattle.std.proofs.Common.{ℤ, sym, subst, ◌∙◌, rules, w64}
use Rattle.std.proofs.lemmas.Int.{to_z-of_z}
use Rattle.turn_book.specs.Told.{IsAnswered}
use Rattle.pct_c.specs.Books.{state_of}
use Rattle.pct_c.proofs.Turned.{none-by, takes-over, takes-bad, takes-not-yet, takes-taken}
use Rattle.std.proofs.lemmas.Bool.{false≢true}
use Rattle.pct_c.proofs.Turned.{not-because, some-none}
use Rattle.pct_c.proofs.turns.take_on.Goals as goal

pub returns-then-is_over : goal.returns-then-is_over
returns-then-is_over c =
    takes-over c.args.thread c.turn_on.result (state_of c.args.book.now) c.turn_on.ensures.status
    c.turn_on.ensures.answer c.turn_on.ensures.choice c.turn_on.ensures.lawful
    (sym c.is_over.ensures ∙ c.if-is_over.true)

pub returns-then-not-may_take : goal.returns-then-not-may_take
returns-then-not-may_take c =
    takes-bad c.args.thread c.turn_on-then-not-may_take.result (state_of c.args.book.now)
    c.turn_on-then-not-may_take.ensures.status c.turn_on-then-not-may_take.ensures.answer
    c.turn_on-then-not-may_take.ensures.choice c.turn_on-then-not-may_take.ensures.lawful
    (λ may. false≢true (sym c.if-not-may_take.true ∙ c.may_take.ensures.1 may))

pub returns-in-Answer : goal.returns-in-Answer
returns-in-Answer c =
    let took = c.take_turn.ensures.answer c.in-Answer.answer c.in-Answer.is in
    takes-taken c.args.thread c.turn_taken.result (state_of c.args.book.now)
    (state_of c.take_turn.new.self) c.turn_taken.ensures.status c.turn_taken.ensures.choice
    c.turn_taken.ensures.lawful (took.0, took.1)
    (subst (λ (a : ℤ). IsAnswered (state_of c.args.book.now) c.args.thread a
    (state_of c.take_turn.new.self)) (sym c.turn_taken.ensures.answer)
    (subst (λ (a : ℤ). IsAnswered (state_of c.args.book.now) c.args.thread a
    (state_of c.take_turn.new.self))
    (sym (to_z-of_z w64 c.in-Answer.answer (search rules))) took.2))

pub returns-in-NotYet : goal.returns-in-NotYet
returns-in-NotYet c =
    let why = c.take_turn.ensures.not_yet c.in-NotYet.at c.in-NotYet.because c.in-NotYet.is in
    takes-not-yet c.args.thread c.turn_on-in-NotYet.result (state_of c.args.book.now)
    (state_of c.take_turn.new.self) c.turn_on-in-NotYet.ensures.status
    c.turn_on-in-NotYet.ensures.answer c.turn_on-in-NotYet.ensures.choice
    c.turn_on-in-NotYet.ensures.lawful (c.may_take.ensures.0 c.if-not-may_take.false) why.0
    (not-because (state_of c.args.book.now) c.args.thread c.in-NotYet.because why.2) why.3

pub returns-in-Over : goal.returns-in-Over
returns-in-Over c =
    absurd (some-none (state_of c.args.book.now).outcome
    (c.take_turn.ensures.over c.in-Over.is).0
    (none-by (state_of c.args.book.now).outcome c.is_over.result c.is_over.ensures
    c.if-is_over.false))
