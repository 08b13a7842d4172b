-- The steps that give an index, by change points and by moments: each index is given at one step at
-- most.
use Rattle.std.proofs.Common.{◌≡◌, ◌≢◌, ℕ, zero, suc, ◌+◌, ◌-◌, ◌<◌, ◌≤◌, cond, ◌&&◌, nat_lt, eqb}
use Rattle.std.proofs.Common.{List, [], ◌∷◌, ◌++◌, length, get_or, set, map, refl, sym, ap, subst}
use Rattle.std.proofs.Common.{◌∙◌, arith, add-one, ne_eqb, eq-eqb, eqb-true}
use Rattle.std.specs.List.{count_by}
use Rattle.std.proofs.lemmas.List.{length_push, take-append-le, take_all}
use Rattle.std.proofs.lemmas.List.FromFn.{length-map-range_with_len, get_or-map-range_with_len}
use Rattle.std.proofs.lemmas.List.Sums.{sum_by_push, sum_by-take-le}
use Rattle.std.proofs.lemmas.Bool.{and_parts}
use Rattle.rank_now.specs.declared.moment.Moment.{Moment}
use Rattle.rank_now.specs.Positions.{passes_at}
use Rattle.rank_now.specs.Order.{IsOrder}
use Rattle.rank_now.specs.Rank.{place_in_order, last_change, rank_by, index_of_point, own_steps}
use Rattle.rank_now.specs.Rank.{is_moment, index_of_moment, threads_of, ranks, ranks_by_moments}
use Rattle.rank_now.proofs.laws.Orders.{place-within-order}
use Rattle.rank_now.proofs.laws.Positions.{greatest-le, greatest-agree, greatest-passes}
use Rattle.rank_now.proofs.laws.Positions.{passes_at-append, passes_at-last, passes_at-agree}
use Rattle.rank_now.proofs.laws.Positions.{passes_at-both, ranks_by-same, ranks_by-step}

-- ---- a value that no step has given
module _ (given : ℕ → ℕ) (count : ℕ) (order schedule : List ℕ) (is : IsOrder order) (value : ℕ)
    (low : value ≤ count) (new : (step : ℕ) → 0 < step → step ≤ length schedule
    → given step ≢ value) where
  at-free : (other : ℕ) → other < length order → (step : ℕ) → step ≤ length schedule
      → cond (eqb step 0) (count + length order - place_in_order order other) (given step) ≢ value
  at-free other small zero within e = let place = place-within-order order is other small in
      omega arith
  at-free other small (suc k) within e =
      new (suc k) (omega arith) within
      (sym (ap (λ b. cond b (count + length order - place_in_order order other) (given (suc k)))
      (ne_eqb (suc k) 0 (λ z. omega arith))) ∙ e)

  rank_by-free : (other : ℕ) → other < length order
      → rank_by given count order schedule other ≢ value
  unfolding rank_by
  rank_by-free other small =
      at-free other small (last_change given schedule other)
      (greatest-le (λ step. passes_at (λ taker. eqb taker other) schedule step
      && nat_lt 0 (given step)) (length schedule))

  pub ranks_by-free : (values : List ℕ)
      → values ≡ map (rank_by given count order schedule) (threads_of order) → (other : ℕ)
      → other < length values → get_or values other 0 ≢ value
  ranks_by-free values same other within e =
      let long : length values ≡ length order =
      ap length same ∙ length-map-range_with_len (rank_by given count order schedule) 0
      (length order) in
      rank_by-free other (omega arith)
      (sym (ap (λ x. get_or x other 0) same
      ∙ get_or-map-range_with_len (rank_by given count order schedule) 0 (length order) other
      other 0 (omega arith) (omega arith)) ∙ e)

-- ---- change points
pub point-once : (points : List ℕ) (first second : ℕ) → 0 < index_of_point points first
    → index_of_point points first ≡ index_of_point points second → first ≡ second
point-once points first second some e =
    let a = greatest-passes (passes_at (λ point. eqb point first) points) (length points) some in
    let b = greatest-passes (passes_at (λ point. eqb point second) points) (length points)
    (omega (arith, e)) in
    let w = passes_at-both (λ point. eqb point first) (λ point. eqb point second) points
    (index_of_point points first) a (ap (passes_at (λ point. eqb point second) points) e ∙ b) in
    sym (eqb-true w.0 first w.1) ∙ eqb-true w.0 second w.2

module _ (order points schedule : List ℕ) (thread : ℕ) where
  abbrev index : ℕ
  index = index_of_point points (length schedule + 1)

  here : index ≡ index_of_point points (suc (length schedule))
  here = ap (index_of_point points) (add-one (length schedule))

  -- the ranks after a step that is a change point, and after one that is none
  pub ranks-step : (values : List ℕ) (value : ℕ) → 0 < value → value ≡ index
      → values ≡ ranks order points schedule
      → set values thread value ≡ ranks order points (schedule ++ thread ∷ [])
  ranks-step values value some is same =
      ranks_by-step (index_of_point points) (index_of_point points) (length points) order schedule
      thread (λ step low high. refl) values value some (is ∙ here) same

  pub ranks-same : index ≡ 0 → ranks order points schedule
      ≡ ranks order points (schedule ++ thread ∷ [])
  ranks-same none =
      ranks_by-same (index_of_point points) (index_of_point points) (length points) order schedule
      thread (λ step low high. refl) (sym here ∙ none)

  pub ranks-free : IsOrder order → (values : List ℕ) (value : ℕ) → 0 < value → value ≡ index
      → values ≡ ranks order points schedule → (other : ℕ) → other < length values
      → get_or values other 0 ≢ value
  ranks-free ordered values value some is same =
      ranks_by-free (index_of_point points) (length points) order schedule ordered value
      (omega (
        arith,
        is,
        greatest-le (passes_at (λ point. eqb point (length schedule + 1)) points)
            (length points),
      ))
      (λ step low high e. let same_step =
      point-once points step (length schedule + 1) (omega (arith, e)) (e ∙ is) in omega arith)
      values same

-- ---- moments
module _ (schedule : List ℕ) (thread : ℕ) where
  abbrev after : List ℕ
  after = schedule ++ thread ∷ []

  own_steps-earlier : (other step : ℕ) → step ≤ length schedule
      → own_steps after other step ≡ own_steps schedule other step
  own_steps-earlier other step within =
      ap (count_by (λ taker. eqb taker other)) (take-append-le step schedule (thread ∷ []) within)

  -- the step that the thread has just taken is its own step of the next number
  pub own_steps-last : own_steps after thread (suc (length schedule))
      ≡ count_by (λ taker. eqb taker thread) schedule + 1
  own_steps-last =
      let one : cond (eqb thread thread) (suc zero) zero ≡ suc zero =
      ap (λ b. cond b (suc zero) zero) (eq-eqb thread thread refl) in
      ap (count_by (λ taker. eqb taker thread))
      (take_all (suc (length schedule)) after (omega (arith, length_push schedule thread)))
      ∙ sum_by_push (λ taker. cond (eqb taker thread) 1 0) schedule thread
      ∙ ap (λ x. count_by (λ taker. eqb taker thread) schedule + x) one

  is_moment-earlier : (step : ℕ) → step ≤ length schedule → (moment : Moment)
      → is_moment after step moment ≡ is_moment schedule step moment
  is_moment-earlier step within moment =
      ap (λ b. b && eqb (own_steps after moment.thread step) moment.number)
      (passes_at-append (λ taker. eqb taker moment.thread) schedule (thread ∷ []) step within)
      ∙ ap (λ x. passes_at (λ taker. eqb taker moment.thread) schedule step
      && eqb x moment.number) (own_steps-earlier moment.thread step within)

  moment-earlier : (moments : List Moment) (step : ℕ) → 0 < step → step ≤ length schedule
      → index_of_moment moments after step ≡ index_of_moment moments schedule step
  moment-earlier moments step low within =
      greatest-agree (passes_at (is_moment after step) moments)
      (passes_at (is_moment schedule step) moments) (length moments)
      (λ k p q. passes_at-agree (is_moment after step) (is_moment schedule step)
      (is_moment-earlier step within) moments k)

  -- no moment is two steps
  moment-once : (moments : List Moment) (step : ℕ) → step ≤ length schedule
      → 0 < index_of_moment moments after step
      → index_of_moment moments after step ≢ index_of_moment moments after (suc (length schedule))
  moment-once moments step within some e =
      let a = greatest-passes (passes_at (is_moment after step) moments) (length moments) some in
      let b = greatest-passes (passes_at (is_moment after (suc (length schedule))) moments)
      (length moments) (omega (arith, e)) in
      let w = passes_at-both (is_moment after step) (is_moment after (suc (length schedule)))
      moments
      (index_of_moment moments after step) a
      (ap (passes_at (is_moment after (suc (length schedule))) moments) e ∙ b) in
      let m = w.0 in
      let first = and_parts (passes_at (λ taker. eqb taker m.thread) after step)
      (eqb (own_steps after m.thread step) m.number) w.1 in
      let second = and_parts (passes_at (λ taker. eqb taker m.thread) after (suc (length schedule)))
      (eqb (own_steps after m.thread (suc (length schedule))) m.number) w.2 in
      let taker : thread ≡ m.thread = eqb-true thread m.thread
      (sym (passes_at-last (λ taker. eqb taker m.thread) schedule thread) ∙ second.0) in
      let early : own_steps after m.thread step ≡ m.number =
      eqb-true (own_steps after m.thread step) m.number first.1 in
      let late : own_steps after m.thread (suc (length schedule)) ≡ m.number =
      eqb-true (own_steps after m.thread (suc (length schedule))) m.number second.1 in
      let P : ℕ → Type 0 = λ x. own_steps after x (suc (length schedule))
      ≡ count_by (λ taker. eqb taker x) schedule + 1 in
      let last = subst P taker own_steps-last in
      let few : own_steps schedule m.thread step ≤ count_by (λ taker. eqb taker m.thread) schedule =
      sum_by-take-le (λ taker. cond (eqb taker m.thread) 1 0) schedule step in
      let same = own_steps-earlier m.thread step within in
      omega (arith, early, late, last, few, same)

module _ (order : List ℕ) (moments : List Moment) (schedule : List ℕ) (thread : ℕ) where
  abbrev next : ℕ
  next = index_of_moment moments (schedule ++ thread ∷ []) (length schedule + 1)

  next-is : next ≡ index_of_moment moments (schedule ++ thread ∷ []) (suc (length schedule))
  next-is = ap (index_of_moment moments (schedule ++ thread ∷ [])) (add-one (length schedule))

  -- the ranks after a step that is a moment, and after one that is none
  pub ranks_by_moments-step : (values : List ℕ) (value : ℕ) → 0 < value → value ≡ next
      → values ≡ ranks_by_moments order moments schedule
      → set values thread value ≡ ranks_by_moments order moments (schedule ++ thread ∷ [])
  ranks_by_moments-step values value some is same =
      ranks_by-step (index_of_moment moments schedule)
      (index_of_moment moments (schedule ++ thread ∷ [])) (length moments) order schedule thread
      (moment-earlier schedule thread moments) values value some (is ∙ next-is) same

  pub ranks_by_moments-same : next ≡ 0
      → ranks_by_moments order moments schedule
      ≡ ranks_by_moments order moments (schedule ++ thread ∷ [])
  ranks_by_moments-same none =
      ranks_by-same (index_of_moment moments schedule)
      (index_of_moment moments (schedule ++ thread ∷ [])) (length moments) order schedule thread
      (moment-earlier schedule thread moments) (sym next-is ∙ none)

  pub ranks_by_moments-free : IsOrder order → (values : List ℕ) (value : ℕ) → 0 < value
      → value ≡ next → values ≡ ranks_by_moments order moments schedule → (other : ℕ)
      → other < length values → get_or values other 0 ≢ value
  ranks_by_moments-free ordered values value some is same =
      ranks_by-free (index_of_moment moments schedule) (length moments) order schedule ordered value
      (omega (
        arith,
        is,
        greatest-le (passes_at
            (is_moment (schedule ++ thread ∷ []) (length schedule + 1)) moments) (length moments),
      ))
      (λ step low high e. let early = moment-earlier schedule thread moments step low high in
      moment-once schedule thread moments step high (omega (arith, e, early))
      (early ∙ e ∙ is ∙ next-is)) values same

-- ---- before the first step
same_maps : (f g : ℕ → ℕ) → ((x : ℕ) → f x ≡ g x) → (xs : List ℕ) → map f xs ≡ map g xs
same_maps f g agree [] = refl
same_maps f g agree (x ∷ xs) = λ i. agree x i ∷ same_maps f g agree xs i

rank_by-first : (given : ℕ → ℕ) (count : ℕ) (order : List ℕ) (thread : ℕ)
    → rank_by given count order [] thread ≡ count + length order - place_in_order order thread
unfolding rank_by
rank_by-first given count order thread = refl

pub ranks-first : (order points values : List ℕ) (count : ℕ) → length points ≡ count
    → values ≡ map (λ t. count + length order - place_in_order order t) (threads_of order)
    → values ≡ ranks order points []
ranks-first order points values count same is =
    is ∙ same_maps (λ t. count + length order - place_in_order order t)
    (rank_by (index_of_point points) (length points) order [])
    (λ t. ap (λ x. x + length order - place_in_order order t) (sym same)
    ∙ sym (rank_by-first (index_of_point points) (length points) order t)) (threads_of order)

pub ranks_by_moments-first : (order : List ℕ) (moments : List Moment) (values : List ℕ) (count : ℕ)
    → length moments ≡ count → values ≡ map (λ t. count + length order - place_in_order order t)
    (threads_of order) → values ≡ ranks_by_moments order moments []
ranks_by_moments-first order moments values count same is =
    is ∙ same_maps (λ t. count + length order - place_in_order order t)
    (rank_by (index_of_moment moments []) (length moments) order [])
    (λ t. ap (λ x. x + length order - place_in_order order t) (sym same)
    ∙ sym (rank_by-first (index_of_moment moments []) (length moments) order t)) (threads_of order)
