use Rattle.std.proofs.Common.{◌≡◌, true, sym, subst}
use Rattle.std.specs.Prelude.{◌↔◌}
use Rattle.pct_ask.specs.declared.event.Standing.TheVariants as standings
use Rattle.turn_book.specs.Told.{BookState, standing_of}
use Rattle.turn_lock.specs.Slots.{Slot, NotesBelow}
use Rattle.turn_lock.specs.Briefs.{InBrief}
use Rattle.turn_lock.specs.Turns.{TurnsTo}
use Rattle.turn_lock.proofs.Sweeps.{is-work}
use Rattle.turn_lock.proofs.slot.Slot.work.Goals as goal

pub returns-clause-work : goal.returns-clause-work
returns-clause-work g c =
    let away = subst (λ (s : Slot). (c.is_away.result ≡ true)
    ↔ (standing_of s.book c.args.thread ≡ standings.Away)) c.self.view_is c.is_away.ensures in
    let old = c.args.self.now.book in
    let t = c.args.thread in
    let post = c.args.post in
    let is = sym c.note_own.ensures.book in
    let Notes : BookState → Type 0 = λ b. NotesBelow b.deal.threads c.note_own.new.self.board in
    let notes = subst Notes is c.note_own.ensures.notes in
    let Turns : BookState → Type 0 =
    λ b. InBrief (λ turn. TurnsTo old t post turn b) c.turn-brief.result in
    let turn = subst Turns is c.turn-brief.ensures.turn in
    let below = c.wakes.ensures.below in
    is-work _ _ _ _ _ c.requires.thread c.requires.lawful notes turn away below
