-- The choices that come next, as they are looked for.
use Rattle.std.specs.Prelude.{slice_get}
use Rattle.std.proofs.Common.{◌≡◌, ℕ, zero, suc, ◌+◌, ◌<◌, ◌≤◌, List, [], ◌∷◌, ◌++◌, arith}
use Rattle.std.proofs.Common.{inl, inr, refl, ap, sym, subst, ◌∙◌, length, drop, get_or}
use Rattle.std.proofs.lemmas.Bool.{cases_eq}
use Rattle.sweep.specs.declared.choice.Choice.{Choice}
use Rattle.sweep.specs.Rows.{SweepSetup, choices_of}
use Rattle.sweep.specs.Weights.{weight}
use Rattle.sweep.specs.Batches.{IsChoiceAt, HavePointAbove, AreAhead}

module _ (setup : SweepSetup) (long : ℕ) where
  pub nothing-ahead : (from : ℕ) → AreAhead setup long from [] from
  nothing-ahead from = (omega arith, λ place choice low high at. absurd (omega (arith, low, high)))

  above-next : (from end : ℕ) → HavePointAbove setup long from end
      → ((choice : Choice) → IsChoiceAt setup end choice
      → weight setup.steps long choice.points ≡ 0) → HavePointAbove setup long from (end + 1)
  above-next from end before last place choice low high at = elim (cases_eq place end) [
    | inl same ↦ last choice (ap (slice_get (choices_of setup)) (sym same) ∙ at)
    | inr other ↦ before place choice low (omega (arith, high, other)) at
  ]

  -- one that stands for none is left out
  pub passed-by : (from end : ℕ) (places : List ℕ) → AreAhead setup long from places end
      → ((choice : Choice) → IsChoiceAt setup end choice
      → weight setup.steps long choice.points ≡ 0) → AreAhead setup long from places (end + 1)
  passed-by from end [] are last =
      (omega (arith, are.0), above-next from end are.1 last)
  passed-by from end (place ∷ places) are last = (
    are.0,
    omega (arith, are.1),
    are.2,
    passed-by (suc place) end places are.3 last,
  )

  -- any other comes next
  pub taken-on : (from end : ℕ) (places : List ℕ) → AreAhead setup long from places end
      → AreAhead setup long from (places ++ end ∷ []) (end + 1)
  taken-on from end [] are = (
    are.0,
    omega arith,
    are.1,
    (omega arith, λ place choice low high at. absurd (omega (arith, low, high))),
  )
  taken-on from end (place ∷ places) are = (
    are.0,
    omega (arith, are.1),
    are.2,
    taken-on (suc place) end places are.3,
  )

  -- the next of them
  drop-next : (xs : List ℕ) (k d : ℕ) → k < length xs
      → drop k xs ≡ get_or xs k d ∷ drop (k + 1) xs
  drop-next [] k d within = absurd (omega (arith, within))
  drop-next (x ∷ xs) zero d within = refl
  drop-next (x ∷ xs) (suc k) d within =
      drop-next xs k d (omega (arith, within))
      ∙ ap (λ n. get_or xs k d ∷ drop n (x ∷ xs))
      (let e : suc (k + 1) ≡ suc k + 1 = omega arith in e)

  drop-all : (xs : List ℕ) (k : ℕ) → length xs ≤ k → drop k xs ≡ []
  drop-all [] zero short = refl
  drop-all [] (suc k) short = refl
  drop-all (x ∷ xs) zero short = absurd (omega (arith, short))
  drop-all (x ∷ xs) (suc k) short = drop-all xs k (omega (arith, short))

  pub record IsNext (from end place : ℕ) (places : List ℕ) : Type 0 where
    pub from_here : from ≤ place
    pub to_there : place < end
    pub above : HavePointAbove setup long from place
    pub ahead : AreAhead setup long (place + 1) places end

  pub next-ahead : (from end k place : ℕ) (places : List ℕ) → k < length places
      → place ≡ get_or places k place → AreAhead setup long from (drop k places) end
      → IsNext from end place (drop (k + 1) places)
  next-ahead from end k place places within is are =
      let cut : drop k places ≡ place ∷ drop (k + 1) places =
      drop-next places k place within
      ∙ ap (λ p. p ∷ drop (k + 1) places) (sym is) in
      let parts : AreAhead setup long from (place ∷ drop (k + 1) places) end =
      subst (λ l. AreAhead setup long from l end) cut are in
      record {
        from_here = parts.0;
        to_there = parts.1;
        above = parts.2;
        ahead = subst (λ n. AreAhead setup long n (drop (k + 1) places) end)
            (let e : suc place ≡ place + 1 = omega arith in e) parts.3;
      }

  -- none is left
  pub none-ahead : (from end k : ℕ) (places : List ℕ) → length places ≤ k
      → AreAhead setup long from (drop k places) end
      → (from ≤ end) × HavePointAbove setup long from end
  none-ahead from end k places short are =
      subst (λ l. AreAhead setup long from l end) (drop-all places k short) are
