-- Whose turn it is, by what the book tells.
use Rattle.std.proofs.Common.{◌≡◌, ℕ, Bool, false, Option, Some, None, sym, refl, ◌∙◌}
use Rattle.std.specs.Prelude.{◌↔◌, is_some}
use Rattle.std.proofs.lemmas.Bool.{false≢true}
use Rattle.pct_ask.specs.declared.verdict.Outcome.{Outcome}
use Rattle.turn_book.specs.Told.{BookState}
use Rattle.turn_lock.specs.Wakes.{HasTurn}

-- no outcome stands, by a look
pub not-over : (last : Option Outcome) (says : Bool) → says ≡ is_some last → says ≡ false
    → last ≡ None
not-over None says is not = refl
not-over (Some outcome) says is not = absurd (false≢true (sym not ∙ is))

module _ (book : BookState) (granted : Option ℕ)
    (iff : (u : ℕ) → (granted ≡ Some u) ↔ HasTurn book u) where
  pub nobodys-turn : granted ≡ None → (u : ℕ) → HasTurn book u → ⊥
  nobodys-turn none u turn = let both : None ≡ Some u = sym none ∙ (iff u).1 turn in cc

  pub same-turn : (t : ℕ) → granted ≡ Some t → (u : ℕ) → HasTurn book u → u ≡ t
  same-turn t is u turn = let both : Some t ≡ Some u = sym is ∙ (iff u).1 turn in cc
