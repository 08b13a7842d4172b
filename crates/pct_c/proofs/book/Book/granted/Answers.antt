-- Each policy's own answer.
use Rattle.std.proofs.Common.{◌≡◌, ◌↔◌, ℕ, Some, None, sym, ap, subst}
use Rattle.policy_pick.specs.declared.chance.Pick.{Pick}
use Rattle.turn_book.specs.Told.{BookState, choice_of}
use Rattle.pct_c.specs.Books.{state_of}
use Rattle.pct_c.proofs.book.Book.granted.Goals as goal

-- what is told of a book
abbrev Tells : (ℕ → Type 0) → BookState → Type 0
Tells Is s = (u : ℕ)
    → Is u ↔ ((s.outcome ≡ None) × (choice_of s ≡ Some (Pick.Thread u)))

pub returns-in-Points : goal.returns-in-Points
returns-in-Points c =
    subst (Tells (λ u. c.granted.result ≡ Some u)) (sym (ap state_of c.in-Points.is))
    c.granted.ensures

pub returns-in-Moments : goal.returns-in-Moments
returns-in-Moments c =
    subst (Tells (λ u. c.granted-in-Moments.result ≡ Some u)) (sym (ap state_of c.in-Moments.is))
    c.granted-in-Moments.ensures

pub returns-in-Listed : goal.returns-in-Listed
returns-in-Listed c =
    subst (Tells (λ u. c.granted-in-Listed.result ≡ Some u)) (sym (ap state_of c.in-Listed.is))
    c.granted-in-Listed.ensures
