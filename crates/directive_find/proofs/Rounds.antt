-- One moment more that is needed, or left out.
use Rattle.std.proofs.Common.{◌≡◌, ◌≢◌, ℕ, ◌+◌, ◌<◌, ◌≤◌, Some, None, Option, List, length}
use Rattle.std.proofs.Common.{sym, ap, subst, ◌∙◌, arith, inl, inr}
use Rattle.std.specs.List.{remove}
use Rattle.std.proofs.lemmas.Bool.{cases_eq}
use Rattle.pct_ask.specs.declared.Deal.{Deal}
use Rattle.pct_ask.specs.declared.event.Event.{Event}
use Rattle.pct_ask.specs.declared.verdict.Verdict.{Verdict}
use Rattle.pct_ask.specs.Bodies.{Pending}
use Rattle.rank_now.specs.declared.moment.Moment.{Moment}
use Rattle.worker_run.specs.Run.{directed_run}
use Rattle.directive_find.specs.declared.short.Short.{Short}
use Rattle.directive_find.specs.Reduced.{HasVerdict, NeedsFirst, Reduces, Drops, Leaves}
use Rattle.directive_find.proofs.laws.Findings.{same-whole}

module _ (deal : Deal) (bodies : List Pending) (order : List ℕ) (limit : ℕ)
    (verdict : Verdict) where
  abbrev Holds : List Moment → Type 0
  Holds = HasVerdict deal bodies order limit verdict

  module _ (moments rest : List Moment) (place : ℕ) (made : List Event) (ends : Verdict)
      (is : rest ≡ remove moments place)
      (runs : directed_run deal bodies order rest limit ≡ Some (made, ends))
      (before : NeedsFirst Holds moments place) where
    -- the moment is needed, and so are those before it
    pub one-more : ends ≢ verdict → NeedsFirst Holds moments (place + 1)
    one-more apart other within holds = elim (cases_eq other place) [
      | inl e ↦
          let at : directed_run deal bodies order rest limit ≡ Some (holds.0, verdict) =
          ap (λ ms. directed_run deal bodies order ms limit) (is ∙ ap (remove moments) (sym e))
          ∙ holds.1 in
          apart (same-whole made holds.0 ends verdict (directed_run deal bodies order rest limit)
          runs at).1
      | inr ne ↦ before other (omega arith) holds
    ]

    -- or it is the first that can be left out
    pub left-out : (steps : ℕ) (few : length rest ≤ 7) → place < length moments → ends ≡ verdict
        → steps ≡ length made
        → Leaves deal bodies order limit verdict moments
        (Some (record { moments = rest; steps = steps; few = few }))
    left-out steps few within same number =
        let V : Verdict → Type 0 =
        λ v. directed_run deal bodies order rest limit ≡ Some (made, v) in
        let leads = subst V same runs in (
          place,
          record {
            within = within;
            holds = (
              made,
              ap (λ ms. directed_run deal bodies order ms limit) (sym is) ∙ leads,
            );
            before = before;
          },
          is,
          record { made = made; is_directed = leads; number = number },
        )

  -- what reduces to what is left after a round reduces to the same
  pub one-round : (moments left : List Moment) (short : Short)
      → Leaves deal bodies order limit verdict moments (Some short)
      → Reduces Holds short.moments left → Reduces Holds moments left
  one-round moments left short leaves rest =
      let R : List Moment → Type 0 = λ ms. Reduces Holds ms left in
      Drops moments left leaves.0 leaves.1 (subst R leaves.2 rest)

  -- what a call told of the moments that it was lent
  module _ (moments lent : List Moment) (told : Option Short) (same : lent ≡ moments) where
    pub some-leaves : (short : Short) → told ≡ Some short
        → Leaves deal bodies order limit verdict lent told
        → Leaves deal bodies order limit verdict moments (Some short)
    some-leaves short is leaves =
        let T : Option Short → Type 0 = λ t. Leaves deal bodies order limit verdict moments t in
        let E : List Moment → Type 0 = λ es. Leaves deal bodies order limit verdict es told in
        subst T is (subst E same leaves)

    pub none-leaves : told ≡ None → Leaves deal bodies order limit verdict lent told
        → NeedsFirst Holds moments (length moments)
    none-leaves is leaves =
        let T : Option Short → Type 0 = λ t. Leaves deal bodies order limit verdict moments t in
        let E : List Moment → Type 0 = λ es. Leaves deal bodies order limit verdict es told in
        subst T is (subst E same leaves)
