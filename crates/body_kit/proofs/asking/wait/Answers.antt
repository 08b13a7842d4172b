use Rattle.std.proofs.Common.{ℕ, ℤ, None, sym, subst, rules, w64}
use Rattle.std.proofs.lemmas.Int.{to_z-of_z}
use Rattle.turn_lock.specs.Turns.{TookAtLast}
use Rattle.turn_lock.specs.Views.{view}
use Rattle.turn_lock.specs.declared.turn.Turn.{Turn}
use Rattle.turn_lock.specs.declared.turn.Turn.TheVariants.{Answer}
use Rattle.body_kit.proofs.asking.wait.Goals as goal

pub returns-in-Answer-clause-took : goal.returns-in-Answer-clause-took
returns-in-Answer-clause-took g c =
    let v = view c.args.seat.now in
    let w = view c.turn_any-turn.new.seat in
    let same = c.requires.only.alone c.turn_any-turn.result.0 c.turn_any-turn.ensures.serves in
    let took = subst (λ (x : ℕ × Turn). TookAtLast v x.0 None x.1 w)
    (λ i. (same i, c.in-Answer.is i)) c.turn_any-turn.ensures.turn in
    subst (λ (a : ℤ). TookAtLast v c.args.thread None (Answer a) w)
    (sym (to_z-of_z w64 c.in-Answer.answer (search rules))) took

pub returns-in-Over-clause-took : goal.returns-in-Over-clause-took
returns-in-Over-clause-took g c =
    let v = view c.args.seat.now in
    let w = view c.turn_any-turn.new.seat in
    let same = c.requires.only.alone c.turn_any-turn.result.0 c.turn_any-turn.ensures.serves in
    subst (λ (x : ℕ × Turn). TookAtLast v x.0 None x.1 w) (λ i. (same i, c.in-Over.is i))
    c.turn_any-turn.ensures.turn
