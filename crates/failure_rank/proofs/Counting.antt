-- One more row in the groups that are counted.
use Rattle.std.proofs.Common.{◌≡◌, ◌≢◌, suc, ◌+◌, ◌<◌, ◌^◌, Bool, true, false, List, [], ◌∷◌}
use Rattle.std.proofs.Common.{◌++◌, length, get_or, Option, Some, None, refl, sym, ap, subst, ◌∙◌}
use Rattle.std.proofs.Common.{arith, true≢false}
use Rattle.std.specs.List.{All, AllPairs}
use Rattle.std.specs.Map.{lookup, keys_of}
use Rattle.std.proofs.lemmas.List.Elements.{All-nil, All-cons, All-head, All-tail, All-weaker}
use Rattle.std.proofs.lemmas.List.Elements.{All-map}
use Rattle.std.proofs.lemmas.List.Quantifiers.{all_pairs_push}
use Rattle.std.proofs.lemmas.Option.{same_Some}
use Rattle.std.proofs.lemmas.List.Sums.{length-filter, count_by-le-length}
use Rattle.indexmap.specs.IndexMap.{insert_entry}
use Rattle.pct_ask.specs.declared.event.Row.{Row}
use Rattle.pct_ask.specs.declared.verdict.Verdict.{Verdict}
use Rattle.pct_ask.specs.declared.verdict.Verdict.TheVariants.{Passed}
use Rattle.pct_ask.specs.SameVerdict.{same_verdict}
use Rattle.failure_rank.specs.Groups.{rows_with, earliest, IsGroup}
use Rattle.failure_rank.specs.Growing.{group_of, with_row, grown, IsEntry, AreRowsCounted}
use Rattle.failure_rank.specs.declared.group.Group.{Group}
use Rattle.failure_rank.proofs.RowLemmas.{same-true, equal, same-false, rows_with-other}
use Rattle.failure_rank.proofs.RowLemmas.{earliest-kept, earliest-new, place-none, IsGroup-other}
use Rattle.failure_rank.proofs.RowLemmas.{IsGroup-more, IsGroup-new, earliest-group}

-- a verdict and another one, or the same
pub verdict_cases : (v w : Verdict) (P : Type 0) → (v ≡ w → P) → (v ≢ w → P) → P
verdict_cases v w P same other = by (same_verdict v w) refl
  where
    by : (b : Bool) → same_verdict v w ≡ b → P
    by true e = same (equal v w e)
    by false e = other (λ is. true≢false (sym (same-true v w is) ∙ e))

-- what a verdict is looked up at after an insert
module _ (k : Verdict) (w : Group) where
  pub lookup-own : (entries : List (Verdict × Group))
      → lookup (same_verdict k) (insert_entry same_verdict entries k w) ≡ Some w
  lookup-own [] = rw (same-true k k refl)
  lookup-own (e ∷ es) = by (same_verdict k e.0) refl (lookup-own es)
    where
      by : (b : Bool) → same_verdict k e.0 ≡ b
          → lookup (same_verdict k) (insert_entry same_verdict es k w) ≡ Some w
          → lookup (same_verdict k) (insert_entry same_verdict (e ∷ es) k w) ≡ Some w
      by true f rest = rw (f, f)
      by false f rest = rw (f, f) rest

  pub lookup-other : (v : Verdict) → v ≢ k → (entries : List (Verdict × Group))
      → lookup (same_verdict v) (insert_entry same_verdict entries k w)
      ≡ lookup (same_verdict v) entries
  lookup-other v apart [] = rw (same-false v k apart)
  lookup-other v apart (e ∷ es) = by (same_verdict k e.0) refl (lookup-other v apart es)
    where
      by : (b : Bool) → same_verdict k e.0 ≡ b
          → lookup (same_verdict v) (insert_entry same_verdict es k w) ≡ lookup (same_verdict v) es
          → lookup (same_verdict v) (insert_entry same_verdict (e ∷ es) k w)
          ≡ lookup (same_verdict v) (e ∷ es)
      by true f rest =
          let is : k ≡ e.0 = equal k e.0 f in
          let other : same_verdict v e.0 ≡ false = same-false v e.0 (λ x. apart (x ∙ sym is)) in
          rw (f, other)
      by false f rest = rw (f, rest)

  -- the keys of verdicts that were seen before stay
  pub keys-present : (entries : List (Verdict × Group)) (g : Group)
      → lookup (same_verdict k) entries ≡ Some g
      → keys_of (insert_entry same_verdict entries k w) ≡ keys_of entries
  keys-present [] g found = cc
  keys-present (e ∷ es) g found = by (same_verdict k e.0) refl (keys-present es g)
    where
      by : (b : Bool) → same_verdict k e.0 ≡ b
          → (lookup (same_verdict k) es ≡ Some g
          → keys_of (insert_entry same_verdict es k w) ≡ keys_of es)
          → keys_of (insert_entry same_verdict (e ∷ es) k w) ≡ keys_of (e ∷ es)
      by true f rest = rw f
      by false f rest = let later : lookup (same_verdict k) es ≡ Some g = rw f at found in
          rw f (ap (λ ks. e.0 ∷ ks) (rest later))

  pub keys-new : (entries : List (Verdict × Group)) → lookup (same_verdict k) entries ≡ None
      → keys_of (insert_entry same_verdict entries k w) ≡ keys_of entries ++ k ∷ []
  keys-new [] none = refl
  keys-new (e ∷ es) none = by (same_verdict k e.0) refl (keys-new es)
    where
      by : (b : Bool) → same_verdict k e.0 ≡ b
          → (lookup (same_verdict k) es ≡ None
          → keys_of (insert_entry same_verdict es k w) ≡ keys_of es ++ k ∷ [])
          → keys_of (insert_entry same_verdict (e ∷ es) k w) ≡ keys_of (e ∷ es) ++ k ∷ []
      by true f rest = let some = rw f at none in cc some
      by false f rest = let later : lookup (same_verdict k) es ≡ None = rw f at none in
          rw f (ap (λ ks. e.0 ∷ ks) (rest later))

-- what holds of each entry holds of the one that is found
pub found_entry : (P : Verdict × Group → Type 0) (k : Verdict) (entries : List (Verdict × Group))
    (g : Group) → lookup (same_verdict k) entries ≡ Some g → All P entries → P (k, g)
found_entry P k [] g there each = cc there
found_entry P k (e ∷ es) g there each =
    by (same_verdict k e.0) refl (λ later. found_entry P k es g later (All-tail P e es each))
  where
    by : (b : Bool) → same_verdict k e.0 ≡ b → (lookup (same_verdict k) es ≡ Some g → P (k, g))
        → P (k, g)
    by true f rest =
        let is : Some e.1 ≡ Some g = rw f at there in
        let key : k ≡ e.0 = equal k e.0 f in
        subst (λ v. P (v, g)) (sym key) (subst (λ h. P (e.0, h)) (same_Some e.1 g is)
        (All-head P e es each))
    by false f rest = let later : lookup (same_verdict k) es ≡ Some g = rw f at there in rest later

pub pair_tail : {X : Type 0} (R : X → X → Type 0) (x : X) (xs : List X) → AllPairs R (x ∷ xs)
    → AllPairs R xs
pair_tail R x xs pairs i j d below within = pairs (suc i) (suc j) d (omega arith) (omega arith)

pub pair_head : {X : Type 0} (R : X → X → Type 0) (x : X) (xs : List X) → AllPairs R (x ∷ xs)
    → All (R x) xs
pair_head R x xs pairs k d within = pairs 0 (suc k) d (omega arith) (omega arith)

module _ (rows : List Row) (row : Row) where
  entry_other : (e : Verdict × Group) → e.0 ≢ row.verdict → IsEntry rows e
      → IsEntry (rows ++ row ∷ []) e
  entry_other e apart is = record {
    own = is.own;
    group = IsGroup-other rows row e.1 (λ x. apart (sym is.own ∙ x)) is.group;
  }

  -- the verdicts' earliest rows stay where they are, and in order
  order_kept : (keys : List Verdict) → All (λ v. earliest rows v < length rows) keys
      → AllPairs (λ v w. earliest rows v < earliest rows w) keys
      → AllPairs (λ v w. earliest (rows ++ row ∷ []) v < earliest (rows ++ row ∷ []) w) keys
  order_kept keys within pairs i j d below inside =
      rw (
        earliest-kept rows row (get_or keys i d) (within i d (omega arith)),
        earliest-kept rows row (get_or keys j d) (within j d inside),
      ) (pairs i j d below inside)

  places_within : (entries : List (Verdict × Group)) → All (IsEntry rows) entries
      → All (λ v. earliest rows v < length rows) (keys_of entries)
  places_within entries each =
      All-map (λ v. earliest rows v < length rows) (λ (e : Verdict × Group). e.0) entries
      (All-weaker (IsEntry rows) (λ e. earliest rows e.0 < length rows)
      (λ e is. subst (λ v. earliest rows v < length rows) is.own
      (earliest-group rows e.1 is.group)) entries each)

  -- a row that passed changes no group
  pub IsCounted-passed : (entries : List (Verdict × Group)) → row.verdict ≡ Passed
      → AreRowsCounted rows entries → AreRowsCounted (rows ++ row ∷ []) entries
  IsCounted-passed entries passed is = record {
    each =
        All-weaker (IsEntry rows) (IsEntry (rows ++ row ∷ []))
        (λ e own. entry_other e (λ x. own.group.failed (own.own ∙ x ∙ passed)) own) entries is.each;
    order = order_kept (keys_of entries) (places_within entries is.each) is.order;
    all =
        λ v failed none. rows_with-other rows row v (λ x. failed (x ∙ passed))
        ∙ is.all v failed none;
  }

  -- each entry, where the row's verdict has a new group
  each_insert : (w : Group) → w.verdict ≡ row.verdict → IsGroup (rows ++ row ∷ []) w
      → (entries : List (Verdict × Group)) → All (IsEntry rows) entries
      → AllPairs (λ v w. earliest rows v < earliest rows w) (keys_of entries)
      → All (IsEntry (rows ++ row ∷ [])) (insert_entry same_verdict entries row.verdict w)
  each_insert w own is [] each order =
      All-cons (IsEntry (rows ++ row ∷ [])) (row.verdict, w) [] (record { own = own; group = is })
      (All-nil (IsEntry (rows ++ row ∷ [])))
  each_insert w own is (e ∷ es) each order =
      by (same_verdict row.verdict e.0) refl
      (each_insert w own is es (All-tail (IsEntry rows) e es each)
      (pair_tail (λ v w. earliest rows v < earliest rows w) e.0 (keys_of es) order))
    where
      by : (b : Bool) → same_verdict row.verdict e.0 ≡ b
          → All (IsEntry (rows ++ row ∷ [])) (insert_entry same_verdict es row.verdict w)
          → All (IsEntry (rows ++ row ∷ [])) (insert_entry same_verdict (e ∷ es) row.verdict w)
      by true f rest =
          let here : row.verdict ≡ e.0 = equal row.verdict e.0 f in
          let later : All (λ v. earliest rows e.0 < earliest rows v) (keys_of es) =
          pair_head (λ v w. earliest rows v < earliest rows w) e.0 (keys_of es) order in
          rw f (All-cons (IsEntry (rows ++ row ∷ [])) (e.0, w) es
          (record { own = own ∙ here; group = is })
          (others es (All-tail (IsEntry rows) e es each) later here))
        where
          others : (es : List (Verdict × Group)) → All (IsEntry rows) es
              → All (λ v. earliest rows e.0 < earliest rows v) (keys_of es) → row.verdict ≡ e.0
              → All (IsEntry (rows ++ row ∷ [])) es
          others [] each later here = All-nil (IsEntry (rows ++ row ∷ []))
          others (d ∷ ds) each later here =
              let above : earliest rows e.0 < earliest rows d.0 =
              All-head (λ v. earliest rows e.0 < earliest rows v) d.0 (keys_of ds) later in
              All-cons (IsEntry (rows ++ row ∷ [])) d ds
              (entry_other d (λ x. let same = ap (earliest rows) (x ∙ here) in omega (arith, same))
              (All-head (IsEntry rows) d ds each))
              (others ds (All-tail (IsEntry rows) d ds each)
              (All-tail (λ v. earliest rows e.0 < earliest rows v) d.0 (keys_of ds) later) here)
      by false f rest =
          let apart : e.0 ≢ row.verdict =
          λ x. true≢false (sym (same-true row.verdict e.0 (sym x)) ∙ f) in
          rw f (All-cons (IsEntry (rows ++ row ∷ [])) e (insert_entry same_verdict es row.verdict w)
          (entry_other e apart (All-head (IsEntry rows) e es each)) rest)

  all_insert : (entries : List (Verdict × Group)) (w : Group) → AreRowsCounted rows entries
      → (v : Verdict) → v ≢ Passed → lookup (same_verdict v)
      (insert_entry same_verdict entries row.verdict w) ≡ None → rows_with v (rows ++ row ∷ []) ≡ []
  all_insert entries w is v failed none =
      verdict_cases v row.verdict (rows_with v (rows ++ row ∷ []) ≡ [])
      (λ e. let some : lookup (same_verdict v) (insert_entry same_verdict entries row.verdict w)
      ≡ Some w = rw e (lookup-own row.verdict w entries) in cc)
      (λ apart. rows_with-other rows row v apart
      ∙ is.all v failed (sym (lookup-other row.verdict w v apart entries) ∙ none))

  -- the group of a row that failed: a new one, or the one that is there with one more row
  IsCounted-new : (entries : List (Verdict × Group)) → row.verdict ≢ Passed
      → AreRowsCounted rows entries → lookup (same_verdict row.verdict) entries ≡ None
      → AreRowsCounted (rows ++ row ∷ [])
      (insert_entry same_verdict entries row.verdict (group_of row))
  IsCounted-new entries failed is none =
      let own = is.all row.verdict failed none in
      let first : earliest rows row.verdict ≡ length rows =
      place-none (λ (r : Row). same_verdict row.verdict r.verdict) rows own in
      let within = places_within entries is.each in
      let kept = order_kept (keys_of entries) within is.order in
      record {
        each =
            each_insert (group_of row) refl (IsGroup-new rows row failed own) entries is.each
            is.order;
        order =
            subst (AllPairs (λ v w. earliest (rows ++ row ∷ []) v < earliest (rows ++ row ∷ []) w))
            (sym (keys-new row.verdict (group_of row) entries none))
            (all_pairs_push (λ v w. earliest (rows ++ row ∷ []) v < earliest (rows ++ row ∷ []) w)
            (keys_of entries) row.verdict kept
            (λ j d inside. rw (
              earliest-kept rows row (get_or (keys_of entries) j d)
                  (within j d inside),
              earliest-new rows row row.verdict first refl,
            )
            (within j d inside)));
        all = λ v bad gone. all_insert entries (group_of row) is v bad gone;
      }

  IsCounted-present : (entries : List (Verdict × Group)) (g : Group) → row.verdict ≢ Passed
      → AreRowsCounted rows entries → lookup (same_verdict row.verdict) entries ≡ Some g
      → AreRowsCounted (rows ++ row ∷ [])
      (insert_entry same_verdict entries row.verdict (with_row g row))
  IsCounted-present entries g failed is there =
      let entry : IsEntry rows (row.verdict, g) =
      found_entry (IsEntry rows) row.verdict entries g there is.each in
      record {
        each =
            each_insert (with_row g row) entry.own (IsGroup-more rows row g entry.own entry.group)
            entries is.each is.order;
        order =
            subst (AllPairs (λ v w. earliest (rows ++ row ∷ []) v < earliest (rows ++ row ∷ []) w))
            (sym (keys-present row.verdict (with_row g row) entries g there))
            (order_kept (keys_of entries) (places_within entries is.each) is.order);
        all = λ v bad gone. all_insert entries (with_row g row) is v bad gone;
      }

  pub IsCounted-failed : (entries : List (Verdict × Group)) → row.verdict ≢ Passed
      → AreRowsCounted rows entries → AreRowsCounted (rows ++ row ∷ [])
      (insert_entry same_verdict entries row.verdict
      (grown (lookup (same_verdict row.verdict) entries) row))
  IsCounted-failed entries failed is = by (lookup (same_verdict row.verdict) entries) refl
    where
      by : (o : Option Group) → lookup (same_verdict row.verdict) entries ≡ o
          → AreRowsCounted (rows ++ row ∷ [])
          (insert_entry same_verdict entries row.verdict
          (grown (lookup (same_verdict row.verdict) entries) row))
      by None e = rw e (IsCounted-new entries failed is e)
      by (Some g) e = rw e (IsCounted-present entries g failed is e)

-- no group counts more rows than there are
pub counts_fit : (rows : List Row) (entries : List (Verdict × Group)) → AreRowsCounted rows entries
    → length rows + 1 < 2 ^ 32 → All (λ entry. entry.1.count + 1 < 2 ^ 32) entries
counts_fit rows entries is few =
    All-weaker (IsEntry rows) (λ e. e.1.count + 1 < 2 ^ 32)
    (λ e own. omega (
      arith,
      own.group.sums.count,
      length-filter (λ (r : Row). same_verdict e.1.verdict r.verdict) rows,
      count_by-le-length (λ (r : Row). same_verdict e.1.verdict r.verdict) rows,
    )) entries is.each
