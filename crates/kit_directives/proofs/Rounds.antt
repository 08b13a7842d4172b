-- One moment more that is needed, or left out.
use Rattle.std.proofs.Common.{◌≡◌, ℕ, ◌+◌, ◌<◌, Some, None, Option, IfSome, List, length}
use Rattle.std.proofs.Common.{sym, ap, subst, ◌∙◌, arith, inl, inr}
use Rattle.std.specs.List.{remove}
use Rattle.std.proofs.lemmas.Bool.{cases_eq}
use Rattle.pct_ask.specs.declared.deal.Deal.{Deal}
use Rattle.pct_ask.specs.declared.verdict.Verdict.{Verdict}
use Rattle.rank_now.specs.declared.moment.Moment.{Moment}
use Rattle.kit_directives.specs.Directed.{LeadsTo}
use Rattle.kit_directives.specs.Finding.{HasOther, NeedsFirst, IsLeftOf, Without, Leaves}
use Rattle.kit_directives.specs.declared.reducing.ShortMoments.{ShortMoments}

module _ (deal : Deal) (order : List ℕ) (limit : ℕ) (verdict : Verdict) where
  module _ (moments rest : List Moment) (place : ℕ) (is : rest ≡ remove moments place) where
    -- the moment is needed, and so are those before it
    pub one-more : NeedsFirst deal order limit verdict moments place
        → HasOther deal order limit verdict rest
        → NeedsFirst deal order limit verdict moments (place + 1)
    one-more before other k within = elim (cases_eq k place) [
      | inl e ↦
          let H : List Moment → Type 0 = λ ms. HasOther deal order limit verdict ms in
          subst H (is ∙ ap (remove moments) (sym e)) other
      | inr ne ↦ before k (omega arith)
    ]

  -- a moment is left out, where the rest leads to the verdict
  pub led-out : (moments lent rest : List Moment) (place : ℕ) (led : Option ℕ) (steps : ℕ)
      → lent ≡ rest → rest ≡ remove moments place → place < length moments → led ≡ Some steps
      → IfSome led (λ s. LeadsTo deal order limit verdict lent s)
      → Leaves deal order limit verdict moments (Some (record { moments = rest; steps = steps }))
  led-out moments lent rest place led steps same is within some leads =
      let I : Option ℕ → Type 0 = λ o. IfSome o (λ s. LeadsTo deal order limit verdict lent s) in
      let L : List Moment → Type 0 = λ ms. LeadsTo deal order limit verdict ms steps in
      (place, within, is, subst L same (subst I some leads))

  -- what a call told of the moments that it was lent
  module _ (moments lent : List Moment) (told : Option ShortMoments) (same : lent ≡ moments) where
    pub some-leaves : (short : ShortMoments) → told ≡ Some short
        → Leaves deal order limit verdict lent told
        → Leaves deal order limit verdict moments (Some short)
    some-leaves short is leaves =
        let T : Option ShortMoments → Type 0 = λ t. Leaves deal order limit verdict moments t in
        let E : List Moment → Type 0 = λ es. Leaves deal order limit verdict es told in
        subst T is (subst E same leaves)

    pub none-leaves : told ≡ None → Leaves deal order limit verdict lent told
        → NeedsFirst deal order limit verdict moments (length moments)
    none-leaves is leaves =
        let T : Option ShortMoments → Type 0 = λ t. Leaves deal order limit verdict moments t in
        let E : List Moment → Type 0 = λ es. Leaves deal order limit verdict es told in
        subst T is (subst E same leaves)

  -- what is left after a round is left of all
  pub one-round : (all moments : List Moment) (short : ShortMoments)
      → Leaves deal order limit verdict moments (Some short) → IsLeftOf all moments
      → IsLeftOf all short.moments
  one-round all moments short leaves left =
      let L : List Moment → Type 0 = λ ms. IsLeftOf all ms in
      subst L (sym leaves.2) (Without all moments leaves.0 leaves.1 left)

pub some-fewer : (lent : List Moment) (told : Option ShortMoments) (short : ShortMoments)
    → told ≡ Some short
    → IfSome told (λ s. length s.moments < length lent) → length short.moments < length lent
some-fewer lent told short is fewer =
    let T : Option ShortMoments → Type 0 = λ t. IfSome t (λ s. length s.moments < length lent) in
    subst T is fewer
