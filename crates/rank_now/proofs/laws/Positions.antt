-- What becomes of the ranks as a schedule grows by one step.
use Rattle.std.proofs.Common.{◌≡◌, ◌≢◌, ℕ, zero, suc, ◌+◌, ◌-◌, ◌<◌, ◌≤◌, Bool, true, false, cond}
use Rattle.std.proofs.Common.{◌&&◌, nat_lt, eqb, Option, Some, None, List, [], ◌∷◌, ◌++◌, length}
use Rattle.std.proofs.Common.{get_or, set, map, refl, sym, ap, ◌∙◌, inl, inr, arith, add-one}
use Rattle.std.proofs.Common.{slice_get, eq-eqb, ne_eqb}
use Rattle.std.specs.Option.{option_map_or}
use Rattle.std.proofs.lemmas.List.{length_push, length-set, get_or-set_same, get_or-set_other}
use Rattle.std.proofs.lemmas.List.FromFn.{fill_by_all, length-map-range_with_len}
use Rattle.std.proofs.lemmas.List.FromFn.{get_or-map-range_with_len}
use Rattle.std.proofs.lemmas.Bool.{cases_eq}
use Rattle.std.proofs.lemmas.Bool.Decides.{nat_tests}
use Rattle.rank_now.specs.Positions.{greatest_where, passes_at}
use Rattle.rank_now.specs.Rank.{place_in_order, last_change, rank_by, threads_of}

-- ---- positions
pub greatest-le : (test : ℕ → Bool) (n : ℕ) → greatest_where test n ≤ n
greatest-le test zero = omega arith
greatest-le test (suc n) =
    elim (test (suc n)) as (λ b. cond b (suc n) (greatest_where test n) ≤ suc n) [
      | true ↦ omega arith
      | false ↦ omega (arith, greatest-le test n)
    ]

pub greatest-agree : (p q : ℕ → Bool) (n : ℕ) → ((k : ℕ) → 0 < k → k ≤ n → p k ≡ q k)
    → greatest_where p n ≡ greatest_where q n
greatest-agree p q zero agree = refl
greatest-agree p q (suc n) agree =
    let rest = greatest-agree p q n (λ k low high. agree k low (omega arith)) in
    ap (λ b. cond b (suc n) (greatest_where p n)) (agree (suc n) (omega arith) (omega arith))
    ∙ ap (λ m. cond (q (suc n)) (suc n) m) rest

greatest-passes-by : (test : ℕ → Bool) (n : ℕ) (b : Bool) → test (suc n) ≡ b
    → (0 < greatest_where test n → test (greatest_where test n) ≡ true)
    → 0 < cond b (suc n) (greatest_where test n)
    → test (cond b (suc n) (greatest_where test n)) ≡ true
greatest-passes-by test n true e rest some = e
greatest-passes-by test n false e rest some = rest some

-- it passes, unless it is 0
pub greatest-passes : (test : ℕ → Bool) (n : ℕ) → 0 < greatest_where test n
    → test (greatest_where test n) ≡ true
greatest-passes test zero some = absurd (omega arith)
greatest-passes test (suc n) some =
    greatest-passes-by test n (test (suc n)) refl (λ p. greatest-passes test n p) some

slice_get-append : {X : Type 0} (xs ys : List X) (k : ℕ) → k < length xs
    → slice_get (xs ++ ys) k ≡ slice_get xs k
slice_get-append [] ys k within = absurd (omega arith)
slice_get-append (x ∷ xs) ys zero within = refl
slice_get-append (x ∷ xs) ys (suc k) within = slice_get-append xs ys k (omega arith)

slice_get-last : {X : Type 0} (xs : List X) (x : X) → slice_get (xs ++ x ∷ []) (length xs) ≡ Some x
slice_get-last [] x = refl
slice_get-last (y ∷ xs) x = slice_get-last xs x

pub passes_at-append : {X : Type 0} (test : X → Bool) (xs ys : List X) (k : ℕ) → k ≤ length xs
    → passes_at test (xs ++ ys) k ≡ passes_at test xs k
passes_at-append test xs ys zero within = refl
passes_at-append test xs ys (suc k) within =
    ap (λ o. option_map_or test o false) (slice_get-append xs ys k (omega arith))

pub passes_at-last : {X : Type 0} (test : X → Bool) (xs : List X) (x : X)
    → passes_at test (xs ++ x ∷ []) (suc (length xs)) ≡ test x
passes_at-last test xs x = ap (λ o. option_map_or test o false) (slice_get-last xs x)

map_or-agree : {X : Type 0} (p q : X → Bool) → ((x : X) → p x ≡ q x) → (o : Option X)
    → option_map_or p o false ≡ option_map_or q o false
map_or-agree p q agree None = refl
map_or-agree p q agree (Some x) = agree x

pub passes_at-agree : {X : Type 0} (p q : X → Bool) → ((x : X) → p x ≡ q x) → (xs : List X) (k : ℕ)
    → passes_at p xs k ≡ passes_at q xs k
passes_at-agree p q agree xs zero = refl
passes_at-agree p q agree xs (suc k) = map_or-agree p q agree (slice_get xs k)

passes_at-suc : {X : Type 0} (test : X → Bool) (xs : List X) (k : ℕ) (d : X) → k < length xs
    → passes_at test xs (suc k) ≡ test (get_or xs k d)
passes_at-suc test [] k d within = absurd (omega arith)
passes_at-suc test (x ∷ xs) zero d within = refl
passes_at-suc test (x ∷ xs) (suc k) d within = passes_at-suc test xs k d (omega arith)

map_or-both : {X : Type 0} (p q : X → Bool) (o : Option X) → option_map_or p o false ≡ true
    → option_map_or q o false ≡ true → (x : X) × (p x ≡ true) × (q x ≡ true)
map_or-both p q None e f = cc
map_or-both p q (Some x) e f = (x, e, f)

-- the test of the item at a place, which is one position more
pub passes_at-read : {X : Type 0} (test : X → Bool) (xs : List X) (k : ℕ) (d : X) → k < length xs
    → passes_at test xs (k + 1) ≡ test (get_or xs k d)
passes_at-read test xs k d within =
    ap (passes_at test xs) (add-one k) ∙ passes_at-suc test xs k d within

-- the greatest number up to one more
pub greatest-more : (test : ℕ → Bool) (n : ℕ)
    → greatest_where test (n + 1) ≡ cond (test (n + 1)) (n + 1) (greatest_where test n)
greatest-more test n =
    ap (greatest_where test) (add-one n)
    ∙ ap (λ x. cond (test x) x (greatest_where test n)) (sym (add-one n))

-- one item at a position that passes two tests
pub passes_at-both : {X : Type 0} (p q : X → Bool) (xs : List X) (k : ℕ) → passes_at p xs k ≡ true
    → passes_at q xs k ≡ true → (x : X) × (p x ≡ true) × (q x ≡ true)
passes_at-both p q xs zero e f = cc
passes_at-both p q xs (suc k) e f = map_or-both p q (slice_get xs k) e f

-- ---- ranks by two ways to give indices that agree at the schedule's steps
module _ (given given' : ℕ → ℕ) (count : ℕ) (order schedule : List ℕ)
    (agree : (step : ℕ) → 0 < step → step ≤ length schedule → given' step ≡ given step) where
  last_change-agree : (thread : ℕ) → last_change given' schedule thread
      ≡ last_change given schedule thread
  last_change-agree thread =
      greatest-agree (λ step. passes_at (λ taker. eqb taker thread) schedule step
      && nat_lt 0 (given' step)) (λ step. passes_at (λ taker. eqb taker thread) schedule step
      && nat_lt 0 (given step)) (length schedule)
      (λ k low high. ap (λ x. passes_at (λ taker. eqb taker thread) schedule k && nat_lt 0 x)
      (agree k low high))

  value-agree : (thread step : ℕ) → step ≤ length schedule
      → cond (eqb step 0) (count + length order - place_in_order order thread) (given' step)
      ≡ cond (eqb step 0) (count + length order - place_in_order order thread) (given step)
  value-agree thread zero within = refl
  value-agree thread (suc k) within =
      ap (λ x. cond (eqb (suc k) 0) (count + length order - place_in_order order thread) x)
      (agree (suc k) (omega arith) within)

  pub rank_by-agree : (thread : ℕ) → rank_by given' count order schedule thread
      ≡ rank_by given count order schedule thread
  unfolding rank_by
  rank_by-agree thread =
      ap (λ step. cond (eqb step 0) (count + length order - place_in_order order thread)
      (given' step)) (last_change-agree thread)
      ∙ value-agree thread (last_change given schedule thread)
      (greatest-le (λ step. passes_at (λ taker. eqb taker thread) schedule step
      && nat_lt 0 (given step)) (length schedule))

-- ---- one more step
and-false : (b : Bool) → (b && false) ≡ false
and-false true = refl
and-false false = refl

module _ (given given' : ℕ → ℕ) (count : ℕ) (order schedule : List ℕ) (thread : ℕ)
    (agree : (step : ℕ) → 0 < step → step ≤ length schedule → given' step ≡ given step) where
  abbrev after : List ℕ
  after = schedule ++ thread ∷ []

  abbrev now : ℕ
  now = given' (suc (length schedule))

  abbrev changes : (ℕ → ℕ) → List ℕ → ℕ → ℕ → Bool
  changes by steps other step =
      passes_at (λ taker. eqb taker other) steps step && nat_lt 0 (by step)

  earlier : (other : ℕ) → greatest_where (changes given' after other) (length schedule)
      ≡ last_change given schedule other
  earlier other =
      greatest-agree (changes given' after other) (changes given schedule other) (length schedule)
      (λ k low high.
      ap (λ b. b && nat_lt 0 (given' k))
      (passes_at-append (λ taker. eqb taker other) schedule (thread ∷ []) k high)
      ∙ ap (λ x. passes_at (λ taker. eqb taker other) schedule k && nat_lt 0 x)
      (agree k low high))

  last : (other : ℕ) → changes given' after other (suc (length schedule))
      ≡ (eqb thread other && nat_lt 0 now)
  last other =
      ap (λ b. b && nat_lt 0 now) (passes_at-last (λ taker. eqb taker other) schedule thread)

  last_change-step : (other : ℕ) → last_change given' after other
      ≡ cond (eqb thread other && nat_lt 0 now) (suc (length schedule))
      (last_change given schedule other)
  last_change-step other =
      ap (greatest_where (changes given' after other))
      (length_push schedule thread ∙ add-one (length schedule))
      ∙ ap (λ b. cond b (suc (length schedule))
      (greatest_where (changes given' after other) (length schedule))) (last other)
      ∙ ap (λ m. cond (eqb thread other && nat_lt 0 now) (suc (length schedule)) m)
      (earlier other)

  abbrev at : (ℕ → ℕ) → ℕ → ℕ → ℕ
  at by other step = cond (eqb step 0) (count + length order - place_in_order order other) (by step)

  at-suc : (by : ℕ → ℕ) (other k : ℕ) → at by other (suc k) ≡ by (suc k)
  at-suc by other k =
      ap (λ b. cond b (count + length order - place_in_order order other) (by (suc k)))
      (ne_eqb (suc k) 0 (λ e. omega arith))

  at-agree : (other step : ℕ) → step ≤ length schedule → at given' other step ≡ at given other step
  at-agree other zero within = refl
  at-agree other (suc k) within =
      at-suc given' other k ∙ agree (suc k) (omega arith) within ∙ sym (at-suc given other k)

  -- the thread of the step, where it gives an index
  pub rank_by-taker : 0 < now → rank_by given' count order after thread ≡ now
  unfolding rank_by
  rank_by-taker some =
      let test : (eqb thread thread && nat_lt 0 now) ≡ true =
      ap (λ b. b && nat_lt 0 now) (eq-eqb thread thread refl) ∙ grind (arith, nat_tests) in
      ap (at given' thread) (last_change-step thread
      ∙ ap (λ b. cond b (suc (length schedule)) (last_change given schedule thread)) test)
      ∙ at-suc given' thread (length schedule)

  rank_by-kept : (other : ℕ) → (eqb thread other && nat_lt 0 now) ≡ false
      → rank_by given' count order after other ≡ rank_by given count order schedule other
  unfolding rank_by
  rank_by-kept other test =
      ap (at given' other) (last_change-step other
      ∙ ap (λ b. cond b (suc (length schedule)) (last_change given schedule other)) test)
      ∙ at-agree other (last_change given schedule other)
      (greatest-le (changes given schedule other) (length schedule))

  -- another thread
  pub rank_by-other : (other : ℕ) → other ≢ thread
      → rank_by given' count order after other ≡ rank_by given count order schedule other
  rank_by-other other apart =
      rank_by-kept other (ap (λ b. b && nat_lt 0 now) (ne_eqb thread other (λ e. apart (sym e))))

  -- a step that gives no index
  pub rank_by-same : now ≡ 0 → (other : ℕ)
      → rank_by given' count order after other ≡ rank_by given count order schedule other
  rank_by-same none other =
      rank_by-kept other (ap (λ x. eqb thread other && nat_lt 0 x) none
      ∙ and-false (eqb thread other))

  -- the ranks of all threads, where the step gives no index
  pub ranks_by-same : now ≡ 0 → map (rank_by given count order schedule) (threads_of order)
      ≡ map (rank_by given' count order after) (threads_of order)
  ranks_by-same none =
      fill_by_all (rank_by given' count order after)
      (map (rank_by given count order schedule) (threads_of order)) (length order) 0
      (length-map-range_with_len (rank_by given count order schedule) 0 (length order))
      (λ k within. get_or-map-range_with_len (rank_by given count order schedule) 0 (length order) k
      k 0 within (omega arith) ∙ sym (rank_by-same none k))

  -- and where it gives one
  pub ranks_by-step : (values : List ℕ) (value : ℕ) → 0 < value → value ≡ now
      → values ≡ map (rank_by given count order schedule) (threads_of order)
      → set values thread value ≡ map (rank_by given' count order after) (threads_of order)
  ranks_by-step values value some is same =
      let long : length values ≡ length order =
      ap length same ∙ length-map-range_with_len (rank_by given count order schedule) 0
      (length order) in
      fill_by_all (rank_by given' count order after) (set values thread value) (length order) 0
      (length-set values thread value ∙ long)
      (λ k within. elim (cases_eq k thread) [
        | inl e ↦ ap (λ x. get_or (set values thread value) x 0) e
            ∙ get_or-set_same values thread value 0 (omega arith) ∙ is
            ∙ sym (rank_by-taker (omega arith)) ∙ ap (rank_by given' count order after) (sym e)
        | inr ne ↦ get_or-set_other values thread k value 0 ne ∙ ap (λ x. get_or x k 0) same
            ∙ get_or-map-range_with_len (rank_by given count order schedule) 0 (length order) k k 0
            within (omega arith) ∙ sym (rank_by-other k ne)
      ])
