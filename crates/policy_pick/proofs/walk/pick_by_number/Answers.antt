use Rattle.std.proofs.Common.{◌<◌, length, sym, ap, ◌∙◌, arith, inl, inr}
use Rattle.std.proofs.lemmas.Bool.{cases_eq}
use Rattle.std.proofs.lemmas.List.{get_or_default}
use Rattle.policy_pick.specs.declared.chance.Pick.TheVariants.{Departs}
use Rattle.policy_pick.specs.declared.chance.Chance.TheVariants.{Away, Ended}
use Rattle.policy_pick.specs.Choice.{chance_of, is_open, pick_at}
use Rattle.policy_pick.specs.Laws.Finds.{find-is, find-none}
use Rattle.policy_pick.specs.Laws.Walks.{number-stops, number-ends}
use Rattle.policy_pick.proofs.walk.pick_by_number.Goals as goal

pub loop-thread-preserved : goal.loop-thread-preserved
loop-thread-preserved c = λ other below. elim (cases_eq other c.loop-thread.thread) [
  | inl e ↦
      let read = get_or_default c.args.chances.now c.loop-thread.thread Away Ended
      (omega (arith, c.loop-thread-test.true)) in
      ap (λ t. is_open (chance_of c.args.chances.now t)) e ∙ sym (ap is_open read)
      ∙ sym c.is_open.ensures ∙ c.if-is_open.false
  | inr ne ↦ c.loop-thread.invariant other (omega arith)
]

pub returns-then-is_open : goal.returns-then-is_open
returns-then-is_open c =
    let chances = c.args.chances.now in
    let thread = c.loop-thread.thread in
    let within : thread < length chances = omega (arith, c.loop-thread-test.true) in
    let read = get_or_default chances thread Away Ended within in
    let found = find-is (λ t. is_open (chance_of chances t)) 0 (length chances) thread (omega arith)
    (omega arith) (sym (ap is_open read) ∙ sym c.is_open.ensures ∙ c.if-is_open.true)
    (λ k p q. c.loop-thread.invariant k q) in
    c.pick_at.ensures ∙ ap (pick_at (Departs thread) thread) read
    ∙ sym (number-stops chances thread found)

pub returns : goal.returns
returns c =
    sym (number-ends c.args.chances.now
    (find-none (λ t. is_open (chance_of c.args.chances.now t)) 0 (length c.args.chances.now)
    (λ k p q. c.loop-thread.invariant k (omega (arith, c.loop-thread-test.false)))))
