-- What a stable sort by the ranking's key makes of the groups that were counted.
use Rattle.std.proofs.Common.{◌≡◌, ℕ, suc, zero, ◌<◌, ◌≤◌, ◌⊎◌, ⊎_elim, Bool, true, false, List, []}
use Rattle.std.proofs.Common.{◌∷◌, length, get_or, filter, Option, Some, None, Ordering, refl, sym}
use Rattle.std.proofs.Common.{ap, subst, ◌∙◌, arith, true≢false}
use Rattle.std.specs.List.{All, AllPairs, Contains}
use Rattle.std.specs.List.Sorted.{IsPermutation, IsSortedBy, IsStableBy, ties}
use Rattle.std.specs.Cmp.{IsStrictWeakOrder}
use Rattle.std.specs.Map.{lookup, keys_of, values_of}
use Rattle.std.specs.Ordering.{nat_cmp, ordering_then, is_lt}
use Rattle.std.proofs.lemmas.Cmp.{nat_cmp_total, on_total, then_total, back_total}
use Rattle.std.proofs.lemmas.List.Elements.{All-contains, All-map, All-weaker, Contains-get_or}
use Rattle.std.proofs.lemmas.List.Sorted.{ranks_by, sorted_far, All-permutation}
use Rattle.std.proofs.lemmas.List.Sorted.{Contains-permutation}
use Rattle.std.proofs.lemmas.List.Kept.{AllPairs-filter}
use Rattle.std.proofs.lemmas.List.{length-map, get_or-map}
use Rattle.std.proofs.lemmas.Bool.{cases_order, le-ltb, lt-ltb, eq-eqb}
use Rattle.std.proofs.lemmas.Option.{same_Some}
use Rattle.std.specs.declared.cmp.Ordering.TheVariants.{Less, Equal}
use Rattle.pct_ask.specs.declared.event.Row.{Row}
use Rattle.pct_ask.specs.declared.verdict.Verdict.{Verdict}
use Rattle.pct_ask.specs.SameVerdict.{same_verdict}
use Rattle.failure_rank.specs.Groups.{rows_with, earliest, SumsUp, IsGroup, IsRanking, RanksBefore}
use Rattle.failure_rank.specs.Groups.{MoreOften, Shorter, Lower, Earlier}
use Rattle.failure_rank.specs.Growing.{IsEntry, AreRowsCounted}
use Rattle.failure_rank.specs.declared.group.Group.{Group}
use Rattle.failure_rank.proofs.RowLemmas.{some_rows}
use Rattle.failure_rank.proofs.Counting.{pair_tail, found_entry}

-- by the sort's key: the count downwards, then the steps, then the first seed
abbrev pub ranks_below : Group → Group → Ordering
ranks_below a b =
    ordering_then (ordering_then (nat_cmp b.count a.count) (nat_cmp a.steps b.steps))
    (nat_cmp a.first b.first)

abbrev pub comes_first : Group → Group → Bool
comes_first a b = is_lt (ranks_below a b)

pub comes_first-order : IsStrictWeakOrder comes_first
comes_first-order =
    ranks_by (then_total (then_total (back_total (on_total (λ (g : Group). g.count) nat_cmp_total))
    (on_total (λ (g : Group). g.steps) nat_cmp_total))
    (on_total (λ (g : Group). g.first) nat_cmp_total)) (λ (g : Group). g)

equal_cmp : (x y : ℕ) → x ≡ y → nat_cmp x y ≡ Equal
equal_cmp x y e = rw (le-ltb x y (omega arith), eq-eqb x y e)

less_cmp : (x y : ℕ) → x < y → nat_cmp x y ≡ Less
less_cmp x y h = rw (lt-ltb x y h)

-- two groups of which the second doesn't come first by its key, and the first stands earlier where
-- neither does
module _ (rows : List Row) (a b : Group) where
  by_seed : a.count ≡ b.count → a.steps ≡ b.steps → comes_first b a ≡ false
      → (comes_first a b ≡ false → earliest rows a.verdict < earliest rows b.verdict)
      → RanksBefore rows a b
  by_seed often long not_after tie =
      ⊎_elim
      (λ (e : a.first ≡ b.first). Earlier often long e
      (tie (rw (
        equal_cmp b.count a.count (sym often),
        equal_cmp a.steps b.steps long,
        equal_cmp a.first b.first e,
      ))))
      (λ (h : (a.first < b.first) ⊎ (b.first < a.first)). ⊎_elim
      (λ (low : a.first < b.first). Lower often long low)
      (λ (high : b.first < a.first). absurd
      (true≢false ((rw (
        equal_cmp a.count b.count often,
        equal_cmp b.steps a.steps (sym long),
        less_cmp b.first a.first high,
      ) at not_after))))
      h)
      (cases_order a.first b.first)

  by_steps : a.count ≡ b.count → comes_first b a ≡ false
      → (comes_first a b ≡ false → earliest rows a.verdict < earliest rows b.verdict)
      → RanksBefore rows a b
  by_steps often not_after tie =
      ⊎_elim
      (λ (e : a.steps ≡ b.steps). by_seed often e not_after tie)
      (λ (h : (a.steps < b.steps) ⊎ (b.steps < a.steps)). ⊎_elim
      (λ (low : a.steps < b.steps). Shorter often low)
      (λ (high : b.steps < a.steps). absurd
      (true≢false ((rw (equal_cmp a.count b.count often, less_cmp b.steps a.steps high) at
      not_after))))
      h)
      (cases_order a.steps b.steps)

  pub settled : comes_first b a ≡ false
      → (comes_first a b ≡ false → earliest rows a.verdict < earliest rows b.verdict)
      → RanksBefore rows a b
  settled not_after tie =
      ⊎_elim
      (λ (e : a.count ≡ b.count). by_steps e not_after tie)
      (λ (h : (a.count < b.count) ⊎ (b.count < a.count)). ⊎_elim
      (λ (low : a.count < b.count). absurd
      (true≢false ((rw (less_cmp a.count b.count low) at not_after))))
      (λ (high : b.count < a.count). MoreOften high)
      h)
      (cases_order a.count b.count)

-- ---- what stands in a filter

module _ {X : Type 0} (p : X → Bool) where
  place_in : (xs : List X) (k : ℕ) (d : X) → k < length xs → p (get_or xs k d) ≡ true
      → (m : ℕ) × (m < length (filter p xs)) × (get_or (filter p xs) m d ≡ get_or xs k d)
  place_in [] k d below passes = absurd (omega arith)
  place_in (x ∷ xs) zero d below passes = rw passes (0, omega arith, refl)
  place_in (x ∷ xs) (suc k) d below passes = by (p x) refl (place_in xs k d (omega arith) passes)
    where
      by : (b : Bool) → p x ≡ b → (m : ℕ) × (m < length (filter p xs))
          × (get_or (filter p xs) m d ≡ get_or xs k d)
          → (m : ℕ) × (m < length (filter p (x ∷ xs)))
          × (get_or (filter p (x ∷ xs)) m d ≡ get_or xs k d)
      by true e rest = rw e (suc rest.0, omega (arith, rest.1), rest.2)
      by false e rest = rw e rest

  -- two elements that pass stand in a list as they stand in its filter
  pub pairs_kept : (R : X → X → Type 0) (xs : List X) → AllPairs R (filter p xs) → (i j : ℕ) (d : X)
      → i < j → j < length xs → p (get_or xs i d) ≡ true → p (get_or xs j d) ≡ true
      → R (get_or xs i d) (get_or xs j d)
  pairs_kept R [] pairs i j d below inside pass_i pass_j = absurd (omega arith)
  pairs_kept R (x ∷ xs) pairs zero zero d below inside pass_i pass_j = absurd (omega arith)
  pairs_kept R (x ∷ xs) pairs zero (suc j) d below inside pass_i pass_j =
      let kept : AllPairs R (x ∷ filter p xs) = rw pass_i at pairs in
      let place = place_in xs j d (omega arith) pass_j in
      subst (R x) place.2 (kept 0 (suc place.0) d (omega arith) (omega (arith, place.1)))
  pairs_kept R (x ∷ xs) pairs (suc i) zero d below inside pass_i pass_j = absurd (omega arith)
  pairs_kept R (x ∷ xs) pairs (suc i) (suc j) d below inside pass_i pass_j =
      by (p x) refl (λ later. pairs_kept R xs later i j d (omega arith) (omega arith) pass_i pass_j)
    where
      by : (b : Bool) → p x ≡ b → (AllPairs R (filter p xs) → R (get_or xs i d) (get_or xs j d))
          → R (get_or xs i d) (get_or xs j d)
      by true e rest = let kept : AllPairs R (x ∷ filter p xs) = rw e at pairs in
          rest (pair_tail R x (filter p xs) kept)
      by false e rest = let kept : AllPairs R (filter p xs) = rw e at pairs in rest kept

-- ---- a verdict's group

same_steps : (own : List Row) (a b : Group) → SumsUp own a → SumsUp own b → b.steps ≤ a.steps
same_steps own a b is too =
    let row = is.reached in
    let low : b.steps ≤ (get_or own row.0 row.1).steps = too.least row.0 row.1 row.2 in
    let at : (get_or own row.0 row.1).steps ≡ row.1.steps = ap (λ (r : Row). r.steps) row.3 in
    omega (arith, low, at, row.4)

pub same_group : (rows : List Row) (a b : Group) → IsGroup rows a → IsGroup rows b
    → a.verdict ≡ b.verdict → a ≡ b
same_group rows a b is too e =
    let own : SumsUp (rows_with a.verdict rows) b =
    subst (λ v. SumsUp (rows_with v rows) b) (sym e) too.sums in
    let count : a.count ≡ b.count = is.sums.count ∙ sym own.count in
    let first : a.first ≡ b.first = same_Some a.first b.first (sym is.sums.first ∙ own.first) in
    let one : b.steps ≤ a.steps = same_steps (rows_with a.verdict rows) a b is.sums own in
    let other : a.steps ≤ b.steps = same_steps (rows_with a.verdict rows) b a own is.sums in
    let steps : a.steps ≡ b.steps = omega arith in
    (λ i. record { verdict = e i; count = count i; steps = steps i; first = first i })

-- ---- the groups that were counted

module _ (rows : List Row) (entries : List (Verdict × Group))
    (is : AreRowsCounted rows entries) where
  value_at : (k : ℕ) (d : Group) → k < length entries
      → get_or (values_of entries) k d ≡ (get_or entries k (d.verdict, d)).1
  value_at k d inside = get_or-map (λ (e : Verdict × Group). e.1) entries k (d.verdict, d) d inside

  key_at : (k : ℕ) (d : Group) → k < length entries
      → get_or (keys_of entries) k d.verdict ≡ (get_or (values_of entries) k d).verdict
  key_at k d inside =
      get_or-map (λ (e : Verdict × Group). e.0) entries k (d.verdict, d) d.verdict inside
      ∙ sym (is.each k (d.verdict, d) inside).own
      ∙ ap (λ (g : Group). g.verdict) (sym (value_at k d inside))

  in_order : AllPairs (λ a b. earliest rows a.verdict < earliest rows b.verdict) (values_of entries)
  in_order i j d below inside =
      let long : length (values_of entries) ≡ length entries =
      length-map entries (λ (e : Verdict × Group). e.1) in
      let keys : length (keys_of entries) ≡ length entries =
      length-map entries (λ (e : Verdict × Group). e.0) in
      rw (sym (key_at i d (omega arith)), sym (key_at j d (omega arith)))
      (is.order i j d.verdict below (omega arith))

  groups_all : All (IsGroup rows) (values_of entries)
  groups_all =
      All-map (IsGroup rows) (λ (e : Verdict × Group). e.1) entries
      (All-weaker (IsEntry rows) (λ e. IsGroup rows e.1) (λ e own. own.group) entries is.each)

  values_has : All (λ e. Contains (values_of entries) e.1) entries
  values_has k d inside =
      let long : length (values_of entries) ≡ length entries =
      length-map entries (λ (e : Verdict × Group). e.1) in
      subst (Contains (values_of entries))
      (get_or-map (λ (e : Verdict × Group). e.1) entries k d d.1 inside)
      (Contains-get_or (values_of entries) k d.1 (omega arith))

  has_all : (g : Group) → IsGroup rows g → Contains (values_of entries) g
  has_all g group = by (lookup (same_verdict g.verdict) entries) refl
    where
      by : (o : Option Group) → lookup (same_verdict g.verdict) entries ≡ o
          → Contains (values_of entries) g
      by None e =
          absurd (some_rows (rows_with g.verdict rows) g group.sums
          (is.all g.verdict group.failed e))
      by (Some h) e =
          let own : IsEntry rows (g.verdict, h) =
          found_entry (IsEntry rows) g.verdict entries h e is.each in
          let there : Contains (values_of entries) h =
          found_entry (λ e. Contains (values_of entries) e.1) g.verdict entries h e
          values_has in
          subst (Contains (values_of entries)) (same_group rows h g own.group group own.own) there

  -- a stable sort of them is the ranking
  pub ranking : (groups : List Group) → IsPermutation (values_of entries) groups
      → IsSortedBy comes_first groups → IsStableBy comes_first (values_of entries) groups
      → IsRanking rows groups
  ranking groups moved sorted stable = record {
    members =
        λ g. (
          λ there. All-contains (IsGroup rows) groups g
              (All-permutation (IsGroup rows) (values_of entries) groups moved groups_all) there,
          λ group. Contains-permutation (values_of entries) groups g moved (has_all g group),
        );
    order = λ i j d below inside.
        let a = get_or groups i d in
        let b = get_or groups j d in
        let Early : Group → Group → Type 0 =
        λ a b. earliest rows a.verdict < earliest rows b.verdict in
        let not_after : comes_first b a ≡ false =
        sorted_far comes_first comes_first-order groups sorted i j d (omega arith) inside in
        let self : comes_first a a ≡ false =
        sorted_far comes_first comes_first-order groups sorted i i d (omega arith)
        (omega arith) in
        let kept : AllPairs Early (filter (ties comes_first a) groups) =
        subst (AllPairs Early) (sym (stable a))
        (AllPairs-filter Early (ties comes_first a) (values_of entries) in_order) in
        settled rows a b not_after
        (λ not_before. pairs_kept (ties comes_first a) Early groups kept i j d below inside
        (rw self) (rw (not_before, not_after)));
  }
