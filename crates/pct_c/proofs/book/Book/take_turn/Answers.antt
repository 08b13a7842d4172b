-- Each policy's own answer.
use Rattle.std.proofs.Common.{◌≡◌, ℕ, ℤ, length, Some, None, sym, ap, subst}
use Rattle.policy_pick.specs.declared.chance.Pick.{Pick}
use Rattle.turn_book.specs.Told.{BookState, choice_of, IsAnswered}
use Rattle.turn_book.specs.declared.taken.Because.{Because}
use Rattle.turn_book.specs.declared.taken.Reply.{Reply}
use Rattle.turn_book.specs.Answers.{IsBecause}
use Rattle.pct_c.specs.Books.{state_of}
use Rattle.pct_c.proofs.book.Book.take_turn.Goals as goal

abbrev Answers : Reply → ℕ → BookState → BookState → Type 0
Answers reply t new s = (answer : ℤ) → reply ≡ Reply.Answer answer
    → (s.outcome ≡ None) × (choice_of s ≡ Some (Pick.Thread t)) × IsAnswered s t answer new

abbrev AnswersNotYet : Reply → ℕ → BookState → BookState → Type 0
AnswersNotYet reply t new s = (at : ℕ) (because : Because) → reply ≡ Reply.NotYet at because
    → (s.outcome ≡ None) × (at ≡ length s.trace) × IsBecause s t because × (new ≡ s)

pub returns-in-Points-clause-answer : goal.returns-in-Points-clause-answer
returns-in-Points-clause-answer c =
    subst (Answers c.take_turn.result c.args.thread c.take_turn.new.self)
    (sym (ap state_of c.in-Points.is)) c.take_turn.ensures.answer

pub returns-in-Points-clause-not_yet : goal.returns-in-Points-clause-not_yet
returns-in-Points-clause-not_yet c =
    subst (AnswersNotYet c.take_turn.result c.args.thread c.take_turn.new.self)
    (sym (ap state_of c.in-Points.is)) c.take_turn.ensures.not_yet

pub returns-in-Moments-clause-answer : goal.returns-in-Moments-clause-answer
returns-in-Moments-clause-answer c =
    subst (Answers c.take_turn-in-Moments.result c.args.thread c.take_turn-in-Moments.new.self)
    (sym (ap state_of c.in-Moments.is)) c.take_turn-in-Moments.ensures.answer

pub returns-in-Moments-clause-not_yet : goal.returns-in-Moments-clause-not_yet
returns-in-Moments-clause-not_yet c =
    subst (AnswersNotYet c.take_turn-in-Moments.result c.args.thread
    c.take_turn-in-Moments.new.self)
    (sym (ap state_of c.in-Moments.is)) c.take_turn-in-Moments.ensures.not_yet

pub returns-in-Listed-clause-answer : goal.returns-in-Listed-clause-answer
returns-in-Listed-clause-answer c =
    subst (Answers c.take_turn-in-Listed.result c.args.thread c.take_turn-in-Listed.new.self)
    (sym (ap state_of c.in-Listed.is)) c.take_turn-in-Listed.ensures.answer

pub returns-in-Listed-clause-not_yet : goal.returns-in-Listed-clause-not_yet
returns-in-Listed-clause-not_yet c =
    subst (AnswersNotYet c.take_turn-in-Listed.result c.args.thread c.take_turn-in-Listed.new.self)
    (sym (ap state_of c.in-Listed.is)) c.take_turn-in-Listed.ensures.not_yet
