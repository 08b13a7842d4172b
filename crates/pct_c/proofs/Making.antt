-- What makes a book, and what doesn't.
use Rattle.std.proofs.Common.{◌≡◌, ◌<◌, ℕ, Some, None, Option, refl, sym, subst, ◌∙◌, arith, inl}
use Rattle.std.proofs.Common.{inr}
use Rattle.std.proofs.Common.{List, ◌⊎◌, ap}
use Rattle.std.specs.Prelude.{◌↔◌, slice_index, Result, Ok, Err, IfOk, MatchOption}
use Rattle.std.proofs.lemmas.List.{get_or-take, get_or_default, length-take}
use Rattle.std.specs.declared.alloc.AllocError.{AllocError}
use Rattle.rank_now.specs.Order.{IsOrder, IsFirstWrong}
use Rattle.rank_now.specs.declared.order.RankError.{RankError}
use Rattle.pct_c.specs.declared.book.Book.{Book}
use Rattle.pct_c.specs.declared.kept.Kept.{Kept}
use Rattle.pct_c.specs.declared.kept.Kept.TheVariants.{Book as OfBook}
use Rattle.pct_c.specs.Makers.{Makes}

-- A list with a wrong place is no order.
pub wrong_is_no_order : (order : List ℕ) (at : ℕ) → IsFirstWrong order at → IsOrder order → ⊥
wrong_is_no_order order at wrong whole =
    elim wrong.wrong [
      | inl out ↦ omega (arith, whole.below at wrong.within, out)
      | inr named ↦
          let k = named.0 in
          let d = slice_index order at in
          let early : k < at = omega (arith, length-take at order, named.1) in
          let same : slice_index order k ≡ d =
          get_or_default order k 0 d (omega (arith, wrong.within))
          ∙ (sym (get_or-take at order k d early) ∙ named.2) in
          whole.once k at early wrong.within same
    ]

-- The policy's refusal of an order, passed on.
pub refused : {X Y : Type 0} (order : List ℕ) (error : RankError)
    → ((at : ℕ) → (◌≡◌ {A = Result X RankError} (Err error) (Err (RankError.NotAnOrder at)))
    ↔ IsFirstWrong order at) → (at : ℕ)
    → ◌≡◌ {A = Result Y RankError} (Err error) (Err (RankError.NotAnOrder at))
    → IsFirstWrong order at
refused order error told at e =
    let same : error ≡ RankError.NotAnOrder at = cc in (told at).0 (ap (λ r. Err r) same)

-- A book by an order was made, or the order is none.
pub ordered : (result : Result (Option Book) AllocError) (made : Result Book RankError)
    → (Bad : Type 0) (Made : Book → Type 0)
    → ((book : Book) → result ≡ Ok (Some book) → made ≡ Ok book)
    → (result ≡ Ok None → (at : ℕ) × (made ≡ Err (RankError.NotAnOrder at)))
    → ((book : Book) → made ≡ Ok book → Made book)
    → ((at : ℕ) → made ≡ Err (RankError.NotAnOrder at) → Bad)
    → IfOk result (λ book. MatchOption book Bad Made)
ordered (Ok None) made Bad Made some none is not = let at = none refl in not at.0 at.1
ordered (Ok (Some book)) made Bad Made some none is not = is book (some book refl)
ordered (Err e) made Bad Made some none is not = tt

-- What was made was put into the handle.
pub kept : (result : Result (Option Book) AllocError) (status : ℕ) (old new : Option Kept)
    → (May : Type 0) (Made : Book → Type 0) → IfOk result (λ book. MatchOption book (May → ⊥) Made)
    → (status ≡ 0 → (book : Book) × (result ≡ Ok (Some book)) × (new ≡ Some (OfBook book)))
    → (status ≡ 5 → result ≡ Ok None)
    → ((status ≡ 0) ⊎ ((status ≡ 5) ⊎ (status ≡ 6))) → ((status ≡ 0 → ⊥) → new ≡ old)
    → Makes May Made status old new
kept result status old new May Made told done bad statuses stays = record {
  done = λ z. let book = done z in (
    book.0,
    book.2,
    subst (λ (r : Result (Option Book) AllocError). IfOk r (λ b. MatchOption b (May → ⊥) Made))
        book.1 told,
  );
  bad = λ z. subst (λ (r : Result (Option Book) AllocError).
      IfOk r (λ b. MatchOption b (May → ⊥) Made)) (bad z) told;
  statuses = statuses;
  stays = stays;
}
