use Rattle.std.proofs.Common.{sym, ap, ◌∙◌}
use Rattle.turn_lock.specs.Slots.{Slot, word_noted}
use Rattle.turn_lock.proofs.Sweeps.{noted-is}
use Rattle.turn_lock.proofs.slot.Slot.noted.Goals as goal

pub returns-then-thread-clause-some : goal.returns-then-thread-clause-some
returns-then-thread-clause-some g c =
    let is = c.word_of.ensures ∙ ap (λ (s : Slot). word_noted s.board c.args.thread)
    c.self.view_is in
    noted-is _ c.args.self.now.board c.args.thread _ is c.requires

pub returns-then-thread-clause-none : goal.returns-then-thread-clause-none
returns-then-thread-clause-none g c = λ none low.
    sym (c.word_of.ensures ∙ ap (λ (s : Slot). word_noted s.board c.args.thread) c.self.view_is)
    ∙ none
