use Rattle.std.proofs.Common.{ℕ, ℤ, Some, sym, subst, rules, w64}
use Rattle.std.proofs.lemmas.Int.{to_z-of_z}
use Rattle.turn_lock.specs.Turns.{TookAtLast}
use Rattle.turn_lock.specs.Views.{view}
use Rattle.turn_lock.specs.declared.turn.Turn.{Turn}
use Rattle.body_kit.specs.Asking.{ask_post, IsAnsweredAsk}
use Rattle.body_kit.proofs.Answered.{told-answer, told-over, has-asked, then-tells}
use Rattle.body_kit.proofs.Laws.{still-serves}
use Rattle.body_kit.proofs.asking.ask_once.Goals as goal

pub returns-in-Answer-clause-row : goal.returns-in-Answer-clause-row
returns-in-Answer-clause-row g c =
    let v = view c.args.seat.now in
    let w = view c.post_wait.new.seat in
    let last = subst (λ (x : Turn). TookAtLast v c.args.thread
    (Some (ask_post c.args.ask c.args.line)) x w) c.in-Answer.is c.post_wait.ensures.turn in
    subst (λ (a : ℤ). IsAnsweredAsk v c.args.thread c.args.ask c.args.line a w)
    (sym (to_z-of_z w64 c.in-Answer.answer (search rules)))
    (told-answer v w c.args.thread c.requires.only.serves c.requires.owes c.args.ask c.args.line
    c.in-Answer.answer last)

pub returns-in-Over-clause-row : goal.returns-in-Over-clause-row
returns-in-Over-clause-row g c =
    let v = view c.args.seat.now in
    let w = view c.post_wait.new.seat in
    let last = subst (λ (x : Turn). TookAtLast v c.args.thread
    (Some (ask_post c.args.ask c.args.line)) x w) c.in-Over.is c.post_wait.ensures.turn in
    told-over v w c.args.thread c.requires.only.serves (ask_post c.args.ask c.args.line)
    c.in-Over.outcome last.took

pub returns-in-NotYet-clause-row : goal.returns-in-NotYet-clause-row
returns-in-NotYet-clause-row g c =
    let v = view c.args.seat.now in
    let u = view c.post_wait.new.seat in
    let w = view c.wait.new.seat in
    let t : ℕ = c.args.thread in
    let last = subst (λ (x : Turn). TookAtLast v t (Some (ask_post c.args.ask c.args.line)) x u)
    c.in-NotYet.is c.post_wait.ensures.turn in
    let asked = has-asked v u t c.requires.only.serves c.requires.owes c.args.ask c.args.line
    c.in-NotYet.at c.in-NotYet.because last in
    (then-tells v u w t (still-serves v u t asked.on c.requires.only.serves) c.args.ask c.args.line
    asked c.wait.result c.wait.ensures.took).0

pub returns-in-NotYet-clause-on : goal.returns-in-NotYet-clause-on
returns-in-NotYet-clause-on g c =
    let v = view c.args.seat.now in
    let u = view c.post_wait.new.seat in
    let w = view c.wait.new.seat in
    let t : ℕ = c.args.thread in
    let last = subst (λ (x : Turn). TookAtLast v t (Some (ask_post c.args.ask c.args.line)) x u)
    c.in-NotYet.is c.post_wait.ensures.turn in
    let asked = has-asked v u t c.requires.only.serves c.requires.owes c.args.ask c.args.line
    c.in-NotYet.at c.in-NotYet.because last in
    (then-tells v u w t (still-serves v u t asked.on c.requires.only.serves) c.args.ask c.args.line
    asked c.wait.result c.wait.ensures.took).1
