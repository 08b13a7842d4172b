-- The rows of choices, each as often as it is told: how many have a verdict, which they are, and
-- which comes first.
use Rattle.std.specs.Prelude.{slice_get, sum_by, filter, replicate}
use Rattle.std.specs.Option.{option_map}
use Rattle.std.proofs.Common.{◌≡◌, ℕ, zero, suc, ◌+◌, ◌*◌, ◌≤◌, Bool, true, false, Option}
use Rattle.std.proofs.Common.{Some, List, [], ◌∷◌, ◌++◌, length, map, refl, sym, ap, subst}
use Rattle.std.proofs.Common.{◌∙◌, arith, inl, inr}
use Rattle.std.proofs.lemmas.Bool.{cases_lt}
use Rattle.std.proofs.lemmas.List.{append-nil, append_assoc, length-append, length-replicate}
use Rattle.std.proofs.lemmas.List.Elements.{filter-append}
use Rattle.std.proofs.lemmas.List.Sums.{sum_by-cons}
use Rattle.std.proofs.lemmas.Option.{slice_get_within}
use Rattle.pct_ask.specs.declared.event.Row.{Row}
use Rattle.pct_ask.specs.declared.verdict.Verdict.{Verdict}
use Rattle.pct_ask.specs.SameVerdict.{same_verdict}
use Rattle.failure_rank.specs.Groups.{rows_with}
use Rattle.choices.specs.Counting.{has_verdict}
use Rattle.choices.proofs.laws.ListedOnce.{in-append}
use Rattle.choices.proofs.laws.OrderLists.{get-left, get-right}
use Rattle.sweep.specs.declared.choice.Choice.{Choice}
use Rattle.sweep.specs.Rows.{SweepSetup, row_of_run, row_of_choice, rows_from}
use Rattle.sweep.specs.Weights.{copies, spread}
use Rattle.sweep.proofs.Lists.{filter-first}
use Rattle.sweep.proofs.RowLemmas.{same-sym, row-of, ones, has, length-filter-cons}
use Rattle.sweep.proofs.Totals.{runs}

-- ---- the row of a choice

module _ (setup : SweepSetup) where
  pub own-row : (place : ℕ) (choice : Choice)
      → (row : Row) × (row_of_choice setup place choice ≡ Some row)
  own-row place choice =
      let ran = runs setup.deal setup.bodies choice.order choice.points setup.limit in
      (row_of_run place ran.0, ap (option_map (row_of_run place)) ran.1)

  copies-are : (n place : ℕ) (choice : Choice)
      → copies n (row_of_choice setup place choice) ≡ replicate n (own-row place choice).0
  copies-are n place choice = ap (copies n) (own-row place choice).1

  pub has-row : (verdict : Verdict) (place : ℕ) (choice : Choice) (row : Row)
      → row_of_choice setup place choice ≡ Some row
      → has setup verdict choice ≡ same_verdict verdict row.verdict
  has-row verdict place choice row is =
      ap (has_verdict verdict) (row-of setup place choice row is).is_run
      ∙ same-sym row.verdict verdict

-- ---- a row that is repeated

length-passing : {X : Type 0} (p : X → Bool) (n : ℕ) (x : X)
    → length (filter p (replicate n x)) ≡ n * ones (p x)
length-passing p zero x = let e : 0 ≡ 0 * ones (p x) = omega arith in e
length-passing p (suc n) x =
    let product : suc n * ones (p x) ≡ ones (p x) + n * ones (p x) = grind arith in
    omega (
      arith,
      length-filter-cons p x (replicate n x),
      length-passing p n x,
      product,
    )

repeated : {X : Type 0} (n k : ℕ) (x y : X) → slice_get (replicate n x) k ≡ Some y → x ≡ y
repeated zero k x y at = absurd cc
repeated (suc n) zero x y at = cc
repeated (suc n) (suc k) x y at = repeated n k x y at

-- ---- all of them

module _ (setup : SweepSetup) (often : Choice → ℕ) where
  pub length-spread : (place : ℕ) (cs : List Choice)
      → length (spread often setup place cs) ≡ sum_by often cs
  length-spread place [] = refl
  length-spread place (c ∷ cs) =
      let own = copies (often c) (row_of_choice setup place c) in
      let long : length own ≡ often c =
      ap length (copies-are setup (often c) place c)
      ∙ length-replicate (often c) (own-row setup place c).0 in
      omega (
        arith,
        length-append own (spread often setup (suc place) cs),
        long,
        sum_by-cons often c cs,
        length-spread (suc place) cs,
      )

  pub spread-counted : (verdict : Verdict) (place : ℕ) (cs : List Choice)
      → length (rows_with verdict (spread often setup place cs))
      ≡ sum_by (λ c. often c * ones (has setup verdict c)) cs
  spread-counted verdict place [] = refl
  spread-counted verdict place (c ∷ cs) =
      let test : Row → Bool = λ row. same_verdict verdict row.verdict in
      let own = copies (often c) (row_of_choice setup place c) in
      let rest = spread often setup (suc place) cs in
      let row = own-row setup place c in
      let here : length (filter test own) ≡ often c * ones (test row.0) =
      ap (λ l. length (filter test l)) (copies-are setup (often c) place c)
      ∙ length-passing test (often c) row.0 in
      let same : often c * ones (has setup verdict c) ≡ often c * ones (test row.0) =
      ap (λ b. often c * ones b) (has-row setup verdict place c row.0 row.1) in
      omega (
        arith,
        ap length (filter-append test own rest),
        length-append (filter test own) (filter test rest),
        here,
        same,
        sum_by-cons (λ c. often c * ones (has setup verdict c)) c cs,
        spread-counted verdict (suc place) cs,
      )

  pub spread-more : (place : ℕ) (cs : List Choice) (c : Choice)
      → spread often setup place (cs ++ c ∷ [])
      ≡ spread often setup place cs
      ++ copies (often c) (row_of_choice setup (place + length cs) c)
  spread-more place [] c =
      append-nil (copies (often c) (row_of_choice setup place c))
      ∙ ap (λ n. copies (often c) (row_of_choice setup n c))
      (let e : place ≡ place + 0 = omega arith in e)
  spread-more place (d ∷ cs) c =
      let own = copies (often d) (row_of_choice setup place d) in
      ap (λ l. own ++ l) (spread-more (suc place) cs c
      ∙ ap (λ n. spread often setup (suc place) cs ++ copies (often c) (row_of_choice setup n c))
      (let e : suc place + length cs ≡ place + suc (length cs) = omega arith in e))
      ∙ sym (append_assoc own (spread often setup (suc place) cs)
      (copies (often c) (row_of_choice setup (place + suc (length cs)) c)))

  pub spread-parts : (place : ℕ) (cs ds : List Choice)
      → spread often setup place (cs ++ ds)
      ≡ spread often setup place cs ++ spread often setup (place + length cs) ds
  spread-parts place [] ds =
      ap (λ n. spread often setup n ds) (let e : place ≡ place + 0 = omega arith in e)
  spread-parts place (c ∷ cs) ds =
      let own = copies (often c) (row_of_choice setup place c) in
      ap (λ l. own ++ l) (spread-parts (suc place) cs ds
      ∙ ap (λ n. spread often setup (suc place) cs ++ spread often setup n ds)
      (let e : suc place + length cs ≡ place + suc (length cs) = omega arith in e))
      ∙ sym (append_assoc own (spread often setup (suc place) cs)
      (spread often setup (place + suc (length cs)) ds))

  -- each is the row of a choice
  pub in-spread : (place : ℕ) (cs : List Choice) (k : ℕ) (row : Row)
      → slice_get (spread often setup place cs) k ≡ Some row
      → (j : ℕ) × (c : Choice) × (slice_get cs j ≡ Some c)
      × (row_of_choice setup (place + j) c ≡ Some row)
  in-spread place [] k row at = absurd cc
  in-spread place (c ∷ cs) k row at =
      let own = copies (often c) (row_of_choice setup place c) in
      let first = own-row setup place c in
      elim (in-append own (spread often setup (suc place) cs) k row at) [
        | inl here ↦
            let same : first.0 ≡ row =
            repeated (often c) k first.0 row
            (ap (λ l. slice_get l k) (sym (copies-are setup (often c) place c)) ∙ here) in (
              0,
              c,
              refl,
              ap (λ n. row_of_choice setup n c) (let e : place + 0 ≡ place = omega arith in e)
                  ∙ first.1 ∙ ap (λ r. Some r) same,
            )
        | inr later ↦
            let rest = in-spread (suc place) cs later.0 row later.2 in (
              suc rest.0,
              rest.1,
              rest.2,
              ap (λ n. row_of_choice setup n rest.1)
                  (let e : place + suc rest.0 ≡ suc place + rest.0 = omega arith in e) ∙ rest.3,
            )
      ]

  -- each choice that is told at all has its row
  pub to-spread : (place : ℕ) (cs : List Choice) (j : ℕ) (c : Choice) (row : Row)
      → slice_get cs j ≡ Some c → 1 ≤ often c → row_of_choice setup (place + j) c ≡ Some row
      → (k : ℕ) × (slice_get (spread often setup place cs) k ≡ Some row)
  to-spread place [] j c row at some is = absurd cc
  to-spread place (d ∷ cs) zero c row at some is =
      let same : d ≡ c = cc in
      let own = copies (often d) (row_of_choice setup place d) in
      let rest = spread often setup (suc place) cs in
      let there : row_of_choice setup place d ≡ Some row =
      ap (λ c. row_of_choice setup place c) same
      ∙ ap (λ n. row_of_choice setup n c) (let e : place ≡ place + 0 = omega arith in e) ∙ is in
      let are : own ≡ replicate (often d) row = ap (copies (often d)) there in
      let many : 1 ≤ often d = subst (λ c. 1 ≤ often c) (sym same) some in
      let long : length own ≡ often d = ap length are ∙ length-replicate (often d) row in (
        0,
        get-left own rest 0 (omega (arith, long, many)) ∙ ap (λ l. slice_get l 0) are
            ∙ first-of (often d) row many,
      )
    where
      first-of : (n : ℕ) (row : Row) → 1 ≤ n → slice_get (replicate n row) 0 ≡ Some row
      first-of zero row some = absurd (omega (arith, some))
      first-of (suc n) row some = refl
  to-spread place (d ∷ cs) (suc j) c row at some is =
      let own = copies (often d) (row_of_choice setup place d) in
      let found = to-spread (suc place) cs j c row at some
      (ap (λ n. row_of_choice setup n c)
      (let e : suc place + j ≡ place + suc j = omega arith in e) ∙ is) in (
        length own + found.0,
        get-right own (spread often setup (suc place) cs) found.0 ∙ found.1,
      )

  seed-at : (place : ℕ) (cs : List Choice) (k : ℕ) (row : Row)
      → slice_get (spread often setup place cs) k ≡ Some row → place ≤ row.seed
  seed-at place cs k row at =
      let found = in-spread place cs k row at in
      omega (arith, (row-of setup (place + found.0) found.1 row found.3).seed)

  -- in the order of their places
  ascends : (place : ℕ) (cs : List Choice) (i j : ℕ) (a b : Row) → i ≤ j
      → slice_get (spread often setup place cs) i ≡ Some a
      → slice_get (spread often setup place cs) j ≡ Some b → a.seed ≤ b.seed
  ascends place [] i j a b before at there = absurd cc
  ascends place (c ∷ cs) i j a b before at there =
      let own = copies (often c) (row_of_choice setup place c) in
      let rest = spread often setup (suc place) cs in
      let first = own-row setup place c in
      let are = copies-are setup (often c) place c in
      elim (in-append own rest i a at) [
        | inl here ↦
            let same : first.0 ≡ a =
            repeated (often c) i first.0 a (ap (λ l. slice_get l i) (sym are) ∙ here) in
            let seed : a.seed ≡ place =
            ap (λ (r : Row). r.seed) (sym same) ∙ (row-of setup place c first.0 first.1).seed in
            omega (arith, seed, seed-at place (c ∷ cs) j b there)
        | inr later ↦ elim (in-append own rest j b there) [
          | inl wrong ↦
              absurd (omega (arith, slice_get_within own j b wrong, later.1, before))
          | inr too ↦
              ascends (suc place) cs later.0 too.0 a b (omega (arith, before, later.1, too.1))
              later.2 too.2
        ]
      ]

  -- the first that passes has the lowest place
  pub first-least : (test : Row → Bool) (place : ℕ) (cs : List Choice) (first : Row) (k : ℕ)
      (row : Row) → slice_get (filter test (spread often setup place cs)) 0 ≡ Some first
      → slice_get (spread often setup place cs) k ≡ Some row → test row ≡ true
      → first.seed ≤ row.seed
  first-least test place cs first k row at there passes =
      let earliest = filter-first test (spread often setup place cs) first at in
      elim (cases_lt k earliest.0) [
        | inl less ↦
            absurd (let no : test row ≡ false = earliest.3 k row less there in cc)
        | inr more ↦ ascends place cs earliest.0 k first row more earliest.1 there
      ]

-- each row once is the list of rows
pub spread-once : (setup : SweepSetup) (place : ℕ) (cs : List Choice)
    → map Some (spread (λ c. 1) setup place cs) ≡ rows_from setup place cs
spread-once setup place [] = refl
spread-once setup place (c ∷ cs) =
    let first = own-row setup place c in
    let P : Option Row → Type 0 = λ o.
    map Some (copies 1 o ++ spread (λ c. 1) setup (suc place) cs)
    ≡ o ∷ rows_from setup (suc place) cs in
    subst P (sym first.1) (ap (λ l. Some first.0 ∷ l) (spread-once setup (suc place) cs))
