use Rattle.std.proofs.Common.{◌≡◌, ◌+◌, ◌<◌, ap, ◌∙◌, subst, List, ◌∷◌, [], ◌++◌, replicate}
use Rattle.pct_ask.specs.declared.Deal.{Deal}
use Rattle.turn_book.specs.Told.{BookState}
use Rattle.turn_lock.specs.Seen.{owes_of}
use Rattle.turn_lock.specs.Slots.{Slot, new_slot}
use Rattle.turn_lock.specs.Plays.{SeatWithSlots}
use Rattle.turn_lock.proofs.Boards.{no-notes}
use Rattle.turn_lock.proofs.Keeps.{begins}
use Rattle.turn_lock.proofs.laws.Standings.{away-owes}
use Rattle.turn_lock.proofs.held.TurnLock.new.Goals as goal

pub new-requires : goal.new-requires
new-requires g c =
    let b : BookState = c.args.book in
    let is : c.new-slot.result ≡ new_slot b = c.new-slot.ensures.slot in
    begins _ _ _ b _ (c.of-about.ensures ∙ is)
    (c.as_slice.ensures.value ∙ c.in_ok-words.ensures.items_if_clones_equal (λ y e. e)
    ∙ ap (λ (d : Deal). replicate (d.threads + 1) 0) c.deal.ensures)
    (c.push_reserved.ensures.items ∙ ap (λ (l : List Slot). l ++ c.new-slot.result ∷ [])
    c.in_ok-slots.ensures.items ∙ ap (λ (x : Slot). x ∷ []) is)
    c.new-slot.ensures.lawful (no-notes b.deal.threads 64)

pub first-requires-clause-owe : goal.first-requires-clause-owe
first-requires-clause-owe g c = λ κs within t h.
    let b : BookState = c.args.book in
    let seen : c.in-Ok.seat.me.0.seen ≡ b =
    ap (λ (x : SeatWithSlots). x.0.seen) c.in-Ok.ensures.ok.4
    ∙ ap (λ (x : Slot). x.book) (c.of-about.ensures ∙ c.new-slot.ensures.slot) in
    ap (λ (x : BookState). owes_of x t) seen
    ∙ away-owes b t c.new-slot.ensures.lawful
    (c.requires.away t (subst (λ (d : Deal). t < d.threads) c.deal.ensures h))
