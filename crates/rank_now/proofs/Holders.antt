-- Who has a value: one that was lowered to it, or the one that the order gave it.
use Rattle.std.proofs.Common.{◌≡◌, ◌≢◌, ℕ, ◌+◌, ◌-◌, ◌<◌, ◌≤◌, ◌↔◌, List, length, get_or, set, ap}
use Rattle.std.proofs.Common.{◌⊎◌, Option, Some, None, refl, sym, subst, ◌∙◌, arith, inl, inr}
use Rattle.std.proofs.lemmas.List.{length-set, get_or-set_same, get_or-set_other}
use Rattle.std.proofs.lemmas.Bool.{cases_lt, cases_eq}
use Rattle.rank_now.specs.Rank.{place_in_order}
use Rattle.rank_now.specs.Ranking.{AreDistinctValues, HasValue, IsLow, AreLowered}
use Rattle.rank_now.proofs.laws.Orders.{named}

module _ (order values : List ℕ) (lowered : List (Option ℕ))
    (kept : AreLowered order values lowered) where
  -- the thread of a low value
  low-holder : (thread : ℕ) → thread < length values → 1 ≤ get_or values thread 0
      → get_or values thread 0 ≤ length lowered
      → get_or lowered (get_or values thread 0 - 1) None ≡ Some thread
  low-holder thread within some low =
      (kept.holders (get_or values thread 0 - 1) thread (omega arith)).1 (record {
        within = within;
        has = omega arith;
      })

  pub distinct-values : AreDistinctValues values
  distinct-values first second p q e =
      let a = named order kept.is_order first (omega (arith, kept.threads)) in
      let b = named order kept.is_order second (omega (arith, kept.threads)) in
      elim (kept.given first (omega (arith, kept.threads))) [
        | inl f ↦ elim (kept.given second (omega (arith, kept.threads))) [
          | inl s ↦ let same : place_in_order order first ≡ place_in_order order second =
              omega (arith, a.0, b.0) in
              sym a.1 ∙ ap (λ x. get_or order x 0) same ∙ b.1
          | inr s ↦ absurd (omega (arith, a.0, s.1))
        ]
        | inr f ↦ elim (kept.given second (omega (arith, kept.threads))) [
          | inl s ↦ absurd (omega (arith, b.0, f.1))
          | inr s ↦ let one = low-holder first p f.0 f.1 in
              let other = low-holder second q s.0 s.1 in
              let same = ap (λ x. get_or lowered (x - 1) None) e in
              cc
        ]
      ]

  -- each value is at least 1, and at most the greatest
  pub values-positive : (thread : ℕ) → thread < length values → 1 ≤ get_or values thread 0
  values-positive thread within =
      let a = named order kept.is_order thread (omega (arith, kept.threads)) in
      elim (kept.given thread (omega (arith, kept.threads)))
      [ inl f ↦ omega (arith, a.0) | inr f ↦ f.0 ]

  pub values-bound : (thread : ℕ) → thread < length values
      → get_or values thread 0 ≤ length lowered + length values
  values-bound thread within =
      elim (kept.given thread (omega (arith, kept.threads)))
      [ inl f ↦ omega (arith, kept.threads) | inr f ↦ omega (arith, f.1) ]

  -- a value above the low ones that the thread of its place in the order hasn't is nobody's
  pub nobody-has : (value : ℕ) → length lowered < value → value ≤ length lowered + length order
      → get_or values (get_or order (length lowered + length order - value) 0) 0 ≢ value
      → (other : ℕ) → ¬ HasValue values value other
  nobody-has value high within not other has =
      let there : other < length order = omega (arith, kept.threads, has.within) in
      let a = named order kept.is_order other there in
      elim (kept.given other there) [
        | inl f ↦ let place : place_in_order order other ≡ length lowered + length order - value =
            omega (arith, a.0, has.has) in
            not (ap (λ x. get_or values (get_or order x 0) 0) (sym place)
            ∙ ap (λ x. get_or values x 0) a.1 ∙ has.has)
        | inr f ↦ omega (arith, f.1, has.has)
      ]

  -- ---- a thread is lowered
  -- the thread holds no low value any more, and the others hold what they held
  pub record IsFreed (thread : ℕ) (freed : List (Option ℕ)) : Type 0 where
    pub as_many : length freed ≡ length lowered
    pub others : (index other : ℕ) → index < length lowered
        → (get_or freed index None ≡ Some other)
        ↔ ((get_or lowered index None ≡ Some other) × (other ≢ thread))

  -- one that was lowered before
  pub freed-low : (thread : ℕ) → thread < length values → 1 ≤ get_or values thread 0
      → get_or values thread 0 ≤ length lowered
      → IsFreed thread (set lowered (get_or values thread 0 - 1) None)
  freed-low thread within some low =
      let slot : ℕ = get_or values thread 0 - 1 in
      let there : slot < length lowered = omega arith in
      let held = low-holder thread within some low in
      record {
        as_many = length-set lowered slot None;
        others = λ index other inside.
            elim (cases_eq index slot) [
              | inl e ↦ let free : get_or (set lowered slot None) index None ≡ None =
                  ap (λ x. get_or (set lowered slot None) x None) e
                  ∙ get_or-set_same lowered slot None None there in
                  let was : get_or lowered index None ≡ Some thread =
                  ap (λ x. get_or lowered x None) e ∙ held in
                  ((λ is. absurd cc), λ both. absurd (both.1 cc))
              | inr ne ↦ let same = get_or-set_other lowered slot index None None ne in (
                (λ is. (
                  sym same ∙ is,
                  λ o. let was : get_or lowered index None ≡ Some thread =
                      sym same ∙ is ∙ ap Some o in
                      let has = (kept.holders index thread inside).0 was in
                      ne (omega (arith, has.has)),
                )),
                λ both. same ∙ both.0,
              )
            ];
      }

  -- one that was not
  pub freed-high : (thread : ℕ) → length lowered < get_or values thread 0 → IsFreed thread lowered
  freed-high thread high = record {
    as_many = refl;
    others = λ index other inside. (
      (λ is. (
        is,
        λ o. let has = (kept.holders index thread inside).0 (is ∙ ap Some o) in
            omega (arith, has.has),
      )),
      λ both. both.0,
    );
  }

  module _ (thread value : ℕ) (freed : List (Option ℕ)) (within : thread < length values)
      (some : 1 ≤ value) (low : value ≤ length lowered)
      (free : (other : ℕ) → other < length values → get_or values other 0 ≢ value)
      (others : IsFreed thread freed) where
    abbrev after : List ℕ
    after = set values thread value

    abbrev holding : List (Option ℕ)
    holding = set freed (value - 1) (Some thread)

    as-long : length after ≡ length values
    as-long = length-set values thread value

    own-value : get_or after thread 0 ≡ value
    own-value = get_or-set_same values thread value 0 within

    other-value : (other : ℕ) → other ≢ thread → get_or after other 0 ≡ get_or values other 0
    other-value other apart = get_or-set_other values thread other value 0 apart

    as-many : length holding ≡ length lowered
    as-many = length-set freed (value - 1) (Some thread) ∙ others.as_many

    given-after : (other : ℕ) → other < length order
        → (get_or after other 0 ≡ length holding + length order - place_in_order order other)
        ⊎ IsLow (length holding) (get_or after other 0)
    given-after other there = elim (cases_eq other thread) [
      | inl e ↦ let is : get_or after other 0 ≡ value = ap (λ x. get_or after x 0) e ∙ own-value in
          inr (omega arith, omega (arith, as-many))
      | inr ne ↦ let same = other-value other ne in elim (kept.given other there) [
        | inl f ↦ inl (omega (arith, as-many))
        | inr f ↦ inr (omega (arith, f.0), omega (arith, f.1, as-many))
      ]
    ]

    holders-after : (index other : ℕ) → index < length holding
        → (get_or holding index None ≡ Some other) ↔ HasValue after (index + 1) other
    holders-after index other inside = elim (cases_eq index (value - 1)) [
      | inl e ↦ let own : get_or holding index None ≡ Some thread =
          ap (λ x. get_or holding x None) e
          ∙ get_or-set_same freed (value - 1) (Some thread) None
          (omega (arith, others.as_many)) in (
            (λ is. let o : other ≡ thread = cc in
                record {
                  within = omega (arith, as-long);
                  has = ap (λ x. get_or after x 0) o ∙ own-value ∙ omega arith;
                }),
            λ h. elim (cases_eq other thread) [
              | inl o ↦ own ∙ ap Some (sym o)
              | inr ne ↦ absurd (free other (omega (arith, as-long, h.within))
                  (sym (other-value other ne) ∙ h.has ∙ omega arith))
            ],
          )
      | inr ne ↦ let slot = get_or-set_other freed (value - 1) index (Some thread) None ne in
          let there : index < length lowered = omega (arith, as-many) in (
            (λ is. let held = (others.others index other there).0 (sym slot ∙ is) in
                let has = (kept.holders index other there).0 held.0 in
                record {
                  within = omega (arith, as-long, has.within);
                  has = other-value other held.1 ∙ has.has;
                }),
            λ h. elim (cases_eq other thread) [
              | inl o ↦ absurd (let is : get_or after other 0 ≡ value =
                  ap (λ x. get_or after x 0) o ∙ own-value in
                  ne (omega (arith, h.has)))
              | inr apart ↦ slot ∙ (others.others index other there).1 (
                (kept.holders index other there).1 (record {
                  within = omega (arith, as-long, h.within);
                  has = sym (other-value other apart) ∙ h.has;
                }),
                apart,
              )
            ],
          )
    ]

    pub lowered-after : AreLowered order after holding
    lowered-after = record {
      few_threads = kept.few_threads;
      few_values = omega (arith, as-many, kept.few_values);
      is_order = kept.is_order;
      threads = as-long ∙ kept.threads;
      given = given-after;
      holders = holders-after;
    }

  -- the thread is lowered, as the code goes it: its value, read before, is freed
  pub lowered-by : (thread value before : ℕ) (freed : List (Option ℕ)) → thread < length values
      → before ≡ get_or values thread 0
      → (before ≤ length lowered → freed ≡ set lowered (before - 1) None)
      → (length lowered < before → freed ≡ lowered) → 1 ≤ value → value ≤ length lowered
      → ((other : ℕ) → other < length values → get_or values other 0 ≢ value)
      → AreLowered order (set values thread value) (set freed (value - 1) (Some thread))
  lowered-by thread value before freed within read low high some few free =
      let P : List (Option ℕ) → Type 0 = IsFreed thread in
      let let_go : IsFreed thread freed = elim (cases_lt (length lowered) before) [
        | inl lt ↦ subst P (sym (high lt)) (freed-high thread (omega arith))
        | inr ge ↦ subst P (sym (low ge ∙ ap (λ x. set lowered (x - 1) None) read))
            (freed-low thread within (values-positive thread within) (omega arith))
      ] in
      lowered-after thread value freed within some few free let_go

  pub freed-length : (before : ℕ) (freed : List (Option ℕ))
      → (before ≤ length lowered → freed ≡ set lowered (before - 1) None)
      → (length lowered < before → freed ≡ lowered) → length freed ≡ length lowered
  freed-length before freed low high = elim (cases_lt (length lowered) before) [
    | inl lt ↦ ap length (high lt)
    | inr ge ↦ ap length (low ge) ∙ length-set lowered (before - 1) None
  ]
