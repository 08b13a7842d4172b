-- What a policy of moments counts, and the moment that a step is.
use Rattle.std.proofs.Common.{◌≡◌, ◌≢◌, ℕ, zero, suc, ◌+◌, ◌<◌, ◌≤◌, Bool, cond, ◌&&◌, eqb, List}
use Rattle.std.proofs.Common.{[], ◌∷◌, ◌++◌, length, get_or, set, replicate, refl, sym, ap, ◌∙◌}
use Rattle.std.proofs.Common.{inl, inr, arith, add-one, eq-eqb, ne_eqb}
use Rattle.std.specs.List.{count_by}
use Rattle.std.proofs.lemmas.Bool.{cases_eq}
use Rattle.std.proofs.lemmas.List.{get_or_read, length-set, get_or-set_same, get_or-set_other}
use Rattle.std.proofs.lemmas.List.{get_or-replicate, length-replicate}
use Rattle.std.proofs.lemmas.List.FromFn.{fill_by_all, length-map-range_with_len}
use Rattle.std.proofs.lemmas.List.FromFn.{get_or-map-range_with_len}
use Rattle.std.proofs.lemmas.List.Sums.{sum_by_push}
use Rattle.rank_now.specs.declared.moment.Moment.{Moment}
use Rattle.rank_now.specs.Positions.{passes_at, last_position}
use Rattle.rank_now.specs.Rank.{own_steps, is_moment, index_of_moment}
use Rattle.rank_now.proofs.laws.Positions.{greatest-le, greatest-agree, passes_at-last}
use Rattle.rank_now.proofs.laws.Positions.{passes_at-agree}
use Rattle.rank_now.proofs.laws.GivenOnce.{own_steps-last}
use Rattle.policy_pick.specs.Kept.{own_counts}

abbrev steps_of : List ℕ → ℕ → ℕ
steps_of schedule thread = count_by (λ taker. eqb taker thread) schedule

-- ---- counts of own steps
pub own_counts-threads : (order schedule own : List ℕ) → own ≡ own_counts order schedule
    → length own ≡ length order
own_counts-threads order schedule own same =
    ap length same ∙ length-map-range_with_len (steps_of schedule) 0 (length order)

pub own_counts-at : (order schedule own : List ℕ) (thread : ℕ) → own ≡ own_counts order schedule
    → thread < length order → get_or own thread 0 ≡ steps_of schedule thread
own_counts-at order schedule own thread same within =
    ap (λ x. get_or x thread 0) same ∙ get_or-map-range_with_len (steps_of schedule) 0
    (length order) thread thread 0 within (omega arith)

steps_of-taker : (schedule : List ℕ) (thread : ℕ)
    → steps_of (schedule ++ thread ∷ []) thread ≡ steps_of schedule thread + 1
steps_of-taker schedule thread =
    let one : cond (eqb thread thread) (suc zero) zero ≡ suc zero =
    ap (λ b. cond b (suc zero) zero) (eq-eqb thread thread refl) in
    sum_by_push (λ taker. cond (eqb taker thread) 1 0) schedule thread
    ∙ ap (λ x. steps_of schedule thread + x) one

steps_of-other : (schedule : List ℕ) (thread other : ℕ) → other ≢ thread
    → steps_of (schedule ++ thread ∷ []) other ≡ steps_of schedule other
steps_of-other schedule thread other apart =
    let none : cond (eqb thread other) (suc zero) zero ≡ zero =
    ap (λ b. cond b (suc zero) zero) (ne_eqb thread other (λ e. apart (sym e))) in
    sum_by_push (λ taker. cond (eqb taker other) 1 0) schedule thread
    ∙ ap (λ x. steps_of schedule other + x) none ∙ omega arith

pub own_counts-after : (order schedule own : List ℕ) (thread number : ℕ)
    → own ≡ own_counts order schedule → number ≡ steps_of schedule thread + 1
    → set own thread number ≡ own_counts order (schedule ++ thread ∷ [])
own_counts-after order schedule own thread number same is =
    let long = own_counts-threads order schedule own same in
    fill_by_all (steps_of (schedule ++ thread ∷ [])) (set own thread number) (length order) 0
    (length-set own thread number ∙ long)
    (λ k within. elim (cases_eq k thread) [
      | inl e ↦ ap (λ x. get_or (set own thread number) x 0) e
          ∙ get_or-set_same own thread number 0 (omega arith) ∙ is
          ∙ sym (steps_of-taker schedule thread) ∙ ap (steps_of (schedule ++ thread ∷ [])) (sym e)
      | inr ne ↦ get_or-set_other own thread k number 0 ne
          ∙ own_counts-at order schedule own k same within
          ∙ sym (steps_of-other schedule thread k ne)
    ])

pub own_counts-first : (order own : List ℕ) → own ≡ replicate (length order) 0
    → own ≡ own_counts order []
own_counts-first order own same =
    fill_by_all (steps_of []) own (length order) 0
    (ap length same ∙ length-replicate (length order) 0)
    (λ k within. ap (λ x. get_or x k 0) same ∙ get_or-replicate (length order) k 0 0 within)

-- ---- the moment that a step is
module _ (schedule : List ℕ) (thread number : ℕ) (is : number ≡ steps_of schedule thread + 1) where
  abbrev after : List ℕ
  after = schedule ++ thread ∷ []

  abbrev is_now : Moment → Bool
  is_now moment = eqb moment.thread thread && eqb moment.number number

  eqb-flip : (a b : ℕ) → eqb a b ≡ eqb b a
  eqb-flip a b = elim (cases_eq a b) [
    | inl e ↦ eq-eqb a b e ∙ sym (eq-eqb b a (sym e))
    | inr ne ↦ ne_eqb a b ne ∙ sym (ne_eqb b a (λ e. ne (sym e)))
  ]

  own-number : (other : ℕ) → other ≡ thread → own_steps after other (suc (length schedule)) ≡ number
  own-number other e =
      ap (λ t. own_steps after t (suc (length schedule))) e ∙ own_steps-last schedule thread
      ∙ sym is

  is_now-moment : (moment : Moment) → is_now moment ≡ is_moment after (suc (length schedule)) moment
  is_now-moment moment =
      let taken = passes_at-last (λ taker. eqb taker moment.thread) schedule thread in
      elim (cases_eq moment.thread thread) [
        | inl e ↦ ap (λ b. b && eqb moment.number number) (eq-eqb moment.thread thread e)
            ∙ eqb-flip moment.number number
            ∙ ap (λ x. eqb x moment.number) (sym (own-number moment.thread e))
            ∙ sym (ap (λ b. b && eqb (own_steps after moment.thread (suc (length schedule)))
            moment.number) (taken ∙ eq-eqb thread moment.thread (sym e)))
        | inr ne ↦ ap (λ b. b && eqb moment.number number) (ne_eqb moment.thread thread ne)
            ∙ sym (ap (λ b. b && eqb (own_steps after moment.thread (suc (length schedule)))
            moment.number) (taken ∙ ne_eqb thread moment.thread (λ e. ne (sym e))))
      ]

  pub last_position-moment : (moments : List Moment)
      → last_position is_now moments ≡ index_of_moment moments after (length schedule + 1)
  last_position-moment moments =
      greatest-agree (passes_at is_now moments)
      (passes_at (is_moment after (suc (length schedule))) moments) (length moments)
      (λ k p q. passes_at-agree is_now (is_moment after (suc (length schedule))) is_now-moment
      moments k) ∙ ap (index_of_moment moments after) (sym (add-one (length schedule)))

-- what a policy of moments reads before it notes a step: the thread's own number, and the index
-- that the step gives
pub record IsStep (moments : List Moment) (schedule : List ℕ) (thread number index : ℕ) : Type
    0 where
  pub own : number ≡ steps_of schedule thread + 1
  pub given : index ≡ index_of_moment moments (schedule ++ thread ∷ []) (length schedule + 1)
  pub low : index ≤ length moments

pub step-is : (order own : List ℕ) (moments items : List Moment) (schedule : List ℕ)
    (thread before index : ℕ) → own ≡ own_counts order schedule → thread < length order
    → before ≡ get_or own thread before → items ≡ moments
    → index ≡ last_position (λ (e : Moment). eqb e.thread thread && eqb e.number (before + 1)) items
    → IsStep moments schedule thread (before + 1) index
step-is order own moments items schedule thread before index same within read seen found =
    let long = own_counts-threads order schedule own same in
    let counted : before ≡ steps_of schedule thread =
    get_or_read own thread before (omega arith) read 0
    ∙ own_counts-at order schedule own thread same within in
    let number : before + 1 ≡ steps_of schedule thread + 1 = ap (λ x. x + 1) counted in
    let test : Moment → Bool = λ e. eqb e.thread thread && eqb e.number (before + 1) in
    let is = found ∙ ap (last_position test) seen in
    record {
      own = number;
      given = is ∙ last_position-moment schedule thread (before + 1) number moments;
      low = omega (arith, is, greatest-le (passes_at test moments) (length moments));
    }
