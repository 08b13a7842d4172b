-- The flags of a seat that was split off, and of one that took in another.
use Rattle.std.proofs.Common.{◌≡◌, ℕ, ◌<◌, Bool, false, cond, List, get_or, inl, inr, ⊎_elim, sym}
use Rattle.std.proofs.Common.{ap, ◌∙◌, subst, arith}
use Rattle.std.proofs.lemmas.Bool.{cases_Bool, false≢true}
use Rattle.pct_ask.specs.declared.Deal.{Deal}
use Rattle.turn_book.specs.Told.{BookState}
use Rattle.turn_lock.specs.Seen.{SameOf, owes_of}
use Rattle.turn_lock.specs.Rule.{HasFlag}
use Rattle.turn_lock.specs.Seats.{flags_of_either, seat_of_one}
use Rattle.turn_lock.specs.declared.view.View.{View}
use Rattle.turn_lock.proofs.laws.Serving.{either-serves, alone-one}
use Rattle.turn_lock.proofs.laws.Standings.{same-owes}

-- ---- a seat for one thread
pub threads-alone : (v : View) (t n : ℕ) → t < n → (u : ℕ) → HasFlag (seat_of_one v t).serves u
    → u < n
threads-alone v t n inside u h = let e = alone-one v t u h in omega (arith, e)

pub owed-alone : (v : View) (t : ℕ) (owes : List Bool) (seen : BookState)
    → get_or owes t false ≡ owes_of seen t → (u : ℕ) → HasFlag (seat_of_one v t).serves u
    → get_or owes u false ≡ owes_of seen u
owed-alone v t owes seen is u h =
    subst (λ (n : ℕ). get_or owes n false ≡ owes_of seen n) (sym (alone-one v t u h)) is

-- ---- a joined seat
pub threads-joined : (ones others : List Bool) (one other : BookState) → other.deal ≡ one.deal
    → ((t : ℕ) → HasFlag ones t → t < one.deal.threads)
    → ((t : ℕ) → HasFlag others t → t < other.deal.threads)
    → (t : ℕ) → HasFlag (flags_of_either ones others) t → t < one.deal.threads
threads-joined ones others one other same below theirs t h =
    ⊎_elim (below t) (λ g. subst (λ (d : Deal). t < d.threads) same (theirs t g))
    (either-serves ones others t h)

module _ (ones others owes_one owes_other owing : List Bool) (one other both : BookState)
    (chosen : (t : ℕ) → t < 64 → get_or owing t false
    ≡ cond (get_or others t false) (get_or owes_other t false) (get_or owes_one t false))
    (owed : (t : ℕ) → HasFlag ones t → get_or owes_one t false ≡ owes_of one t)
    (owed_there : (t : ℕ) → HasFlag others t → get_or owes_other t false ≡ owes_of other t)
    (own : (t : ℕ) → HasFlag ones t → SameOf t one both)
    (theirs : (t : ℕ) → HasFlag others t → SameOf t other both) where
  left-only : (t : ℕ) → get_or others t false ≡ false → HasFlag (flags_of_either ones others) t
      → HasFlag ones t
  left-only t not h =
      ⊎_elim (λ f. f) (λ g. absurd (false≢true (sym not ∙ g))) (either-serves ones others t h)

  pub owed-joined : (t : ℕ) → t < 64 → HasFlag (flags_of_either ones others) t
      → get_or owing t false ≡ owes_of both t
  owed-joined t below h = elim (cases_Bool (get_or others t false)) [
    | inl theirs_now ↦ chosen t below
        ∙ ap (λ b. cond b (get_or owes_other t false) (get_or owes_one t false)) theirs_now
        ∙ owed_there t theirs_now ∙ sym (same-owes t other both (theirs t theirs_now))
    | inr not ↦ let mine = left-only t not h in
        chosen t below ∙ ap (λ b. cond b (get_or owes_other t false) (get_or owes_one t false)) not
        ∙ owed t mine ∙ sym (same-owes t one both (own t mine))
  ]
