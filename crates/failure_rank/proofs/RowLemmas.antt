-- What one more row changes.
use Rattle.std.proofs.Common.{◌≡◌, ◌≢◌, ◌<◌, ◌≤◌, min, Bool, true, false, List, [], ◌∷◌, ◌++◌}
use Rattle.std.proofs.Common.{length, filter, slice_get, refl, sym, ap, subst, ◌∙◌, ⊎_elim, arith}
use Rattle.std.proofs.Common.{length-append}
use Rattle.std.specs.List.{position_or_len, Any}
use Rattle.std.specs.Option.{option_map}
use Rattle.std.proofs.lemmas.List.{append-nil, get_or_append_left}
use Rattle.std.proofs.lemmas.List.Elements.{filter-append, All-push, All-weaker, All-nil}
use Rattle.std.proofs.lemmas.List.Quantifiers.{Any-push}
use Rattle.std.proofs.lemmas.List.Folds.{position_or_len_push}
use Rattle.std.proofs.lemmas.Bool.{cases_lt, eq-eqb, ne_eqb}
use Rattle.pct_ask.specs.declared.event.Row.{Row}
use Rattle.pct_ask.specs.declared.verdict.Verdict.{Verdict}
use Rattle.pct_ask.specs.declared.verdict.Verdict.TheVariants.{Passed}
use Rattle.pct_ask.proofs.laws.SameVerdicts.{verdict-Decides}
use Rattle.pct_ask.specs.SameVerdict.{same_verdict}
use Rattle.failure_rank.specs.Groups.{rows_with, earliest, SumsUp, IsGroup}
use Rattle.failure_rank.specs.Growing.{group_of, with_row}
use Rattle.failure_rank.specs.declared.group.Group.{Group}

-- `==` of verdicts is equality
pub same-true : (v w : Verdict) → v ≡ w → same_verdict v w ≡ true
same-true v w e = (verdict-Decides v w).1 e

pub equal : (v w : Verdict) → same_verdict v w ≡ true → v ≡ w
equal v w e = (verdict-Decides v w).0 e

pub same-false : (v w : Verdict) → v ≢ w → same_verdict v w ≡ false
same-false v w apart = by (same_verdict v w) refl
  where
    by : (b : Bool) → same_verdict v w ≡ b → same_verdict v w ≡ false
    by true e = absurd (apart (equal v w e))
    by false e = e

module _ (rows : List Row) (row : Row) (v : Verdict) where
  pub rows_with-own : v ≡ row.verdict
      → rows_with v (rows ++ row ∷ []) ≡ rows_with v rows ++ row ∷ []
  rows_with-own e = let same = same-true v row.verdict e in rw (filter-append, same)

  pub rows_with-other : v ≢ row.verdict → rows_with v (rows ++ row ∷ []) ≡ rows_with v rows
  rows_with-other apart = let other = same-false v row.verdict apart in
      rw (filter-append, other, append-nil)

  -- the earliest row of a verdict stays where it is
  pub earliest-kept : earliest rows v < length rows
      → earliest (rows ++ row ∷ []) v ≡ earliest rows v
  earliest-kept within =
      let inside = ne_eqb (earliest rows v) (length rows) (omega arith) in
      rw (position_or_len_push (λ (r : Row). same_verdict v r.verdict), inside)

  -- and a verdict's first row is the last of all
  pub earliest-new : earliest rows v ≡ length rows → v ≡ row.verdict
      → earliest (rows ++ row ∷ []) v ≡ length rows
  earliest-new none e =
      let past = eq-eqb (earliest rows v) (length rows) none in
      let same = same-true v row.verdict e in
      rw (position_or_len_push (λ (r : Row). same_verdict v r.verdict), past, same) (omega arith)

module _ {X : Type 0} (p : X → Bool) where
  -- where nothing passes, the first place that passes is past the end
  pub place-none : (xs : List X) → filter p xs ≡ [] → position_or_len p xs ≡ length xs
  place-none [] e = refl
  place-none (x ∷ xs) e = by (p x) refl (λ f. place-none xs f)
    where
      by : (b : Bool) → p x ≡ b → (filter p xs ≡ [] → position_or_len p xs ≡ length xs)
          → position_or_len p (x ∷ xs) ≡ length (x ∷ xs)
      by true f rest = let none : x ∷ filter p xs ≡ [] = rw f at e in cc none
      by false f rest = let none : filter p xs ≡ [] = rw f at e in let h = rest none in
          rw f (omega (arith, h))

  pub place-some : (xs : List X) → filter p xs ≢ [] → position_or_len p xs < length xs
  place-some [] e = absurd (e refl)
  place-some (x ∷ xs) e = by (p x) refl (λ f. place-some xs f)
    where
      by : (b : Bool) → p x ≡ b → (filter p xs ≢ [] → position_or_len p xs < length xs)
          → position_or_len p (x ∷ xs) < length (x ∷ xs)
      by true f rest = rw f (omega arith)
      by false f rest = let some : filter p xs ≢ [] = λ none. e (rw f none) in let h = rest some in
          rw f (omega (arith, h))

-- ---- the sum of some rows

pub some_rows : (rows : List Row) (g : Group) → SumsUp rows g → rows ≢ []
some_rows rows g sums none = let f = rw none at sums.first in cc f

same_first : (rows : List Row) (row : Row) → rows ≢ []
    → slice_get (rows ++ row ∷ []) 0 ≡ slice_get rows 0
same_first [] row some = absurd (some refl)
same_first (x ∷ xs) row some = refl

any-append : {X : Type 0} (P : X → Type 0) (xs ys : List X) → Any P xs → Any P (xs ++ ys)
any-append P xs ys h = (
  h.0,
  h.1,
  omega (arith, length-append xs ys, h.2),
  get_or_append_left xs ys h.1 h.0 h.2 ∙ h.3,
  h.4,
)

any-weaker : {X : Type 0} (P Q : X → Type 0) → ((x : X) → P x → Q x) → (xs : List X) → Any P xs
    → Any Q xs
any-weaker P Q to xs h = (h.0, h.1, h.2, h.3, to h.1 h.4)

pub SumsUp-more : (rows : List Row) (g : Group) (row : Row) → SumsUp rows g
    → SumsUp (rows ++ row ∷ []) (with_row g row)
SumsUp-more rows g row sums =
    let Has : Row → Type 0 = λ r. r.steps ≡ min g.steps row.steps in
    let Above : Row → Type 0 = λ r. min g.steps row.steps ≤ r.steps in
    let Had : Row → Type 0 = λ r. r.steps ≡ g.steps in
    record {
      count = omega (arith, length-append rows (row ∷ []), sums.count);
      reached =
          ⊎_elim (λ (low : row.steps < g.steps). Any-push Has rows row (omega arith))
          (λ (high : g.steps ≤ row.steps).
          any-append Has rows (row ∷ []) (any-weaker Had Has (λ r e. omega arith) rows
          sums.reached)) (cases_lt row.steps g.steps);
      least =
          All-push Above rows row (All-weaker (λ r. g.steps ≤ r.steps) Above (λ r h. omega arith)
          rows sums.least) (omega arith);
      first =
          ap (λ o. option_map (λ (r : Row). r.seed) o) (same_first rows row (some_rows rows g sums))
          ∙ sums.first;
    }

pub SumsUp-one : (row : Row) → SumsUp (row ∷ []) (group_of row)
SumsUp-one row = record {
  count = refl;
  reached = (0, row, omega arith, refl, refl);
  least =
      All-push (λ r. row.steps ≤ r.steps) [] row (All-nil (λ (r : Row). row.steps ≤ r.steps))
      (omega arith);
  first = refl;
}

-- ---- a group

module _ (rows : List Row) (row : Row) (g : Group) where
  -- where the row ends otherwise
  pub IsGroup-other : g.verdict ≢ row.verdict → IsGroup rows g → IsGroup (rows ++ row ∷ []) g
  IsGroup-other apart is = record {
    failed = is.failed;
    sums = subst (λ own. SumsUp own g) (sym (rows_with-other rows row g.verdict apart)) is.sums;
  }

  pub IsGroup-more : g.verdict ≡ row.verdict → IsGroup rows g
      → IsGroup (rows ++ row ∷ []) (with_row g row)
  IsGroup-more e is = record {
    failed = is.failed;
    sums =
        subst (λ own. SumsUp own (with_row g row)) (sym (rows_with-own rows row g.verdict e))
        (SumsUp-more (rows_with g.verdict rows) g row is.sums);
  }

pub IsGroup-new : (rows : List Row) (row : Row) → row.verdict ≢ Passed
    → rows_with row.verdict rows ≡ [] → IsGroup (rows ++ row ∷ []) (group_of row)
IsGroup-new rows row failed none = record {
  failed = failed;
  sums =
      subst (λ own. SumsUp own (group_of row))
      (sym (rows_with-own rows row row.verdict refl ∙ ap (λ own. own ++ row ∷ []) none))
      (SumsUp-one row);
}

-- a group's verdict has a row
pub earliest-group : (rows : List Row) (g : Group) → IsGroup rows g
    → earliest rows g.verdict < length rows
earliest-group rows g is = place-some _ rows (some_rows _ g is.sums)
