use Rattle.std.proofs.Common.{◌≡◌, ℕ, ◌+◌, length, get_or, sym, subst, ap, ◌∙◌, inl, inr, slice_get}
use Rattle.std.proofs.lemmas.List.{length_push}
use Rattle.lock_order.specs.declared.nesting.Nesting.{Nesting}
use Rattle.lock_order.specs.Chosen.{AreNested, IsFirstOfPair, next_in_ring}
use Rattle.lock_order.proofs.Places.{slice_get-push}
use Rattle.lock_order.proofs.chosen.nestings_of.Goals as goal

pub first_nesting-requires-clause-nested : goal.first_nesting-requires-clause-nested
first_nesting-requires-clause-nested c =
    let P : ℕ → Type 0 = λ next. AreNested c.args.events.now
    (get_or c.args.ring.now c.loop-place.place 0) next in
    subst P (sym c.after.ensures) (c.requires.nested c.loop-place.place c.loop-place-test.true)

pub loop-place-preserved : goal.loop-place-preserved
loop-place-preserved c =
    let events = c.args.events.now in
    let ring = c.args.ring.now in
    let place = c.loop-place.place in
    let pushed = c.in_ok-try_push.ensures.ok in
    let first = c.first_nesting.result in (
      ap length pushed ∙ length_push c.loop-place.nestings first
          ∙ ap (λ n. n + 1) c.loop-place.invariant.0,
      λ earlier nesting at. elim (slice_get-push c.loop-place.nestings first nesting earlier
          (sym (ap (λ xs. slice_get xs earlier) pushed) ∙ at)) [
            | inl before ↦ c.loop-place.invariant.1 earlier nesting before
            | inr (last, same) ↦
                let here : earlier ≡ place = last ∙ c.loop-place.invariant.0 in
                let P : ℕ → Type 0 = λ next. IsFirstOfPair events (get_or ring place 0) next
                first in
                let Q : ℕ → Type 0 = λ k. IsFirstOfPair events (get_or ring k 0)
                (next_in_ring ring k)
                first in
                let R : Nesting → Type 0 = λ n.
                IsFirstOfPair events (get_or ring earlier 0) (next_in_ring ring earlier) n in
                subst R same (subst Q (sym here) (subst P c.after.ensures c.first_nesting.ensures))
          ],
    )
