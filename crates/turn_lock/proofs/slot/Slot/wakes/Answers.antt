use Rattle.std.proofs.Common.{◌≡◌, ◌<◌, ℕ, Some, None, sym, ap, ◌∙◌, subst}
use Rattle.std.specs.Prelude.{◌↔◌, is_some}
use Rattle.turn_lock.specs.Slots.{Slot, word_noted}
use Rattle.turn_lock.specs.Wakes.{HasTurn}
use Rattle.turn_lock.proofs.Waking.{not-over, nobodys-turn, same-turn}
use Rattle.turn_lock.proofs.slot.Slot.wakes.Goals as goal

pub returns-in_default-clause-due : goal.returns-in_default-clause-due
returns-in_default-clause-due g c =
    let iff = subst (λ (s : Slot). (u : ℕ) → (c.granted.result ≡ Some u) ↔ HasTurn s.book u)
    c.self.view_is c.granted.ensures in
    let running = not-over _ _ (c.is_over.ensures
    ∙ ap (λ (s : Slot). is_some s.book.outcome) c.self.view_is) c.if-is_over.false in (
      running,
      λ u low turn. absurd (nobodys-turn c.args.self.now.book c.granted.result iff
          c.in_default.is u turn),
    )

pub returns-in-None-clause-due : goal.returns-in-None-clause-due
returns-in-None-clause-due g c =
    let iff = subst (λ (s : Slot). (u : ℕ) → (c.granted.result ≡ Some u) ↔ HasTurn s.book u)
    c.self.view_is c.granted.ensures in
    let running = not-over _ _ (c.is_over.ensures
    ∙ ap (λ (s : Slot). is_some s.book.outcome) c.self.view_is) c.if-is_over.false in (
      running,
      λ u low turn.
          let same = same-turn c.args.self.now.book c.granted.result iff c.in-Some.thread
          c.in-Some.is u turn in
          subst (λ n. word_noted c.args.self.now.board n ≡ None) (sym same)
          (c.noted.ensures.none c.in-None.is (subst (λ n. n < 64) same low)),
    )

pub returns-in-Some-noted-clause-due : goal.returns-in-Some-noted-clause-due
returns-in-Some-noted-clause-due g c =
    let iff = subst (λ (s : Slot). (u : ℕ) → (c.granted.result ≡ Some u) ↔ HasTurn s.book u)
    c.self.view_is c.granted.ensures in
    (c.in-Some.thread, (iff c.in-Some.thread).0 c.in-Some.is, c.in-Some-noted.ensures.some.0)
