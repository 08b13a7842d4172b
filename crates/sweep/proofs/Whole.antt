-- All choices, of which many are counted at once, have the groups of all their rows.
use Rattle.std.specs.Prelude.{slice_get, sum_by}
use Rattle.std.specs.Option.{option_map}
use Rattle.std.proofs.Common.{◌≡◌, ℕ, ◌+◌, ◌*◌, ◌<◌, ◌≤◌, Bool, true, Option, Some, None}
use Rattle.std.proofs.Common.{List, [], ◌∷◌, length, refl, sym, ap, subst, ◌∙◌, arith}
use Rattle.std.proofs.lemmas.Option.{slice_get_within}
use Rattle.pct_ask.specs.declared.event.Row.{Row}
use Rattle.pct_ask.specs.declared.verdict.Verdict.{Verdict}
use Rattle.pct_ask.specs.SameVerdict.{same_verdict}
use Rattle.worker_run.specs.Run.{Run}
use Rattle.failure_rank.specs.declared.group.Group.{Group}
use Rattle.failure_rank.specs.Groups.{rows_with, IsGroup, IsRanking}
use Rattle.failure_rank.proofs.Laws.{equal}
use Rattle.turn_book.specs.Chances.{threads_below}
use Rattle.choices.specs.Orders.{orders}
use Rattle.choices.specs.PointLists.{pointlists}
use Rattle.choices.specs.Counting.{has_verdict}
use Rattle.sweep.specs.Choices.{choice_of, choice_count}
use Rattle.sweep.specs.declared.choice.Choice.{Choice}
use Rattle.sweep.specs.Rows.{SweepSetup, leads, row_of_choice, choices_of}
use Rattle.sweep.specs.Weights.{weight, top, spread, often_in}
use Rattle.sweep.proofs.Lists.{filter-item, filter-has, sum-same, sum-ones, sum-flat}
use Rattle.sweep.proofs.RowLemmas.{row-of, ones, has}
use Rattle.sweep.proofs.Rows.{length-choices}
use Rattle.sweep.proofs.Weights.{weighted}
use Rattle.sweep.proofs.Clips.{clip, like-clip, clipped}
use Rattle.sweep.proofs.Repeats.{top-some, leads-repeat}
use Rattle.sweep.proofs.Spreads.{own-row, length-spread, spread-counted, in-spread}
use Rattle.sweep.proofs.Spreads.{to-spread, first-least}
use Rattle.sweep.proofs.Alike.{AreAlike, first_seed, ranking-alike}

module _ (setup : SweepSetup) where
  abbrev cs : List Choice
  cs = choices_of setup

  abbrev own : Choice → Option Run
  own choice = leads setup choice.order choice.points

  abbrev often : Choice → ℕ
  often = often_in setup

  -- ---- sums

  sums-alike : (h : Option Run → ℕ)
      → sum_by (λ c. often c * h (own c)) cs ≡ sum_by (λ c. h (own c)) cs
  sums-alike h =
      let os = orders (threads_below setup.deal.threads) in
      let lists = pointlists setup.steps setup.many in
      sum-flat (λ c. often c * h (own c)) choice_of os lists
      ∙ sum-same (λ o. sum_by (λ ps. weight setup.steps (top (leads setup o ps)) ps
      * h (leads setup o ps)) lists) (λ o. sum_by (λ ps. h (leads setup o ps)) lists) os
      (λ k o at. sym (weighted top top-some setup.steps setup.many (leads setup o) h
      (leads-repeat setup o)))
      ∙ sym (sum-flat (λ c. h (own c)) choice_of os lists)

  all-sums : sum_by often cs ≡ choice_count setup.deal.threads setup.steps setup.many
  all-sums =
      sum-same often (λ c. often c * 1) cs
      (λ k c at. let e : often c ≡ often c * 1 = omega arith in e)
      ∙ sums-alike (λ r. 1)
      ∙ sum-ones (λ c. 1) cs (λ k c at. refl)
      ∙ length-choices setup.deal.threads setup.steps setup.many

  abbrev told : List Row
  told = spread often setup 0 cs

  abbrev rows : List Row
  rows = spread (λ c. 1) setup 0 cs

  pub length-told : length told ≡ choice_count setup.deal.threads setup.steps setup.many
  length-told = length-spread setup often 0 cs ∙ all-sums

  pub counts-alike : (v : Verdict) → length (rows_with v told) ≡ length (rows_with v rows)
  counts-alike v =
      spread-counted setup often v 0 cs
      ∙ sums-alike (λ r. ones (has_verdict v r))
      ∙ sum-same (λ c. ones (has setup v c)) (λ c. 1 * ones (has setup v c)) cs
      (λ k c at. let e : ones (has setup v c) ≡ 1 * ones (has setup v c) = omega arith in e)
      ∙ sym (spread-counted setup (λ c. 1) v 0 cs)

  -- ---- where rows are told

  abbrev test : Verdict → Row → Bool
  test v row = same_verdict v row.verdict

  from-told : (k : ℕ) (row : Row) → slice_get told k ≡ Some row
      → (j : ℕ) × (slice_get rows j ≡ Some row)
  from-told k row at =
      let c = in-spread setup often 0 cs k row at in
      to-spread setup (λ c. 1) 0 cs c.0 c.1 row c.2 (omega arith) c.3

  -- a row's run is told at an earlier place
  module _ (some : 1 ≤ setup.steps) where
    record IsTold (row : Row) : Type 0 where
      pub early : Row
      pub place : ℕ
      pub at : slice_get told place ≡ Some early
      pub verdict : early.verdict ≡ row.verdict
      pub steps : early.steps ≡ row.steps
      pub low : early.seed ≤ row.seed

    to-told : (k : ℕ) (row : Row) → slice_get rows k ≡ Some row → IsTold row
    to-told k row at =
        let found = in-spread setup (λ c. 1) 0 cs k row at in
        let c = found.1 in
        let within : found.0 < choice_count setup.deal.threads setup.steps setup.many =
        omega (
          arith,
          slice_get_within cs found.0 c found.2,
          length-choices setup.deal.threads setup.steps setup.many,
        ) in
        let t = top (own c) in
        let moved = clipped setup.deal.threads setup.steps setup.many t found.0 c some
        (top-some (own c)) found.2 within in
        let d = choice_of c.order (clip t c.points) in
        let same : own d ≡ own c =
        leads-repeat setup c.order c.points (clip t c.points) (like-clip t c.points) in
        let stands : 1 ≤ often d =
        subst (λ r. 1 ≤ weight setup.steps (top r) (clip t c.points)) (sym same) moved.stands in
        let early = own-row setup moved.place' d in
        let there = to-spread setup often 0 cs moved.place' d early.0 moved.at stands
        (ap (λ n. row_of_choice setup n d) (let e : 0 + moved.place' ≡ moved.place' = omega arith in
        e) ∙ early.1) in
        let is = row-of setup moved.place' d early.0 early.1 in
        let was = row-of setup (0 + found.0) c row found.3 in
        let both : ◌≡◌ {A = Option Run} (Some (is.made, early.0.verdict))
        (Some (was.made, row.verdict)) = sym is.is_run ∙ same ∙ was.is_run in
        let pair : ◌≡◌ {A = Run} (is.made, early.0.verdict) (was.made, row.verdict) = cc in
        record {
          early = early.0;
          place = there.0;
          at = there.1;
          verdict = ap (λ (r : Run). r.1) pair;
          steps = is.steps ∙ ap (λ (r : Run). length r.0) pair ∙ sym was.steps;
          low = omega (arith, is.seed, was.seed, moved.low);
        }

    -- ---- the rows of a verdict

    passing-told : (v : Verdict) (k : ℕ) (row : Row) → slice_get (rows_with v told) k ≡ Some row
        → (j : ℕ) × (slice_get rows j ≡ Some row) × (test v row ≡ true)
    passing-told v k row at =
        let own = filter-item (test v) told k row at in
        let found = from-told own.0 row own.1 in
        (found.0, found.1, own.2)

    passing-row : (v : Verdict) (k : ℕ) (row : Row) → slice_get (rows_with v rows) k ≡ Some row
        → (is : IsTold row) × (test v is.early ≡ true)
    passing-row v k row at =
        let own = filter-item (test v) rows k row at in
        let is = to-told own.0 row own.1 in
        (is, ap (same_verdict v) is.verdict ∙ own.2)

    firsts : (v : Verdict) → first_seed (rows_with v told) ≡ first_seed (rows_with v rows)
    firsts v = by (slice_get (rows_with v told) 0) (slice_get (rows_with v rows) 0) refl refl
      where
        none-long : (xs : List Row) → slice_get xs 0 ≡ None → length xs ≡ 0
        none-long [] e = refl
        none-long (x ∷ xs) e = absurd cc

        seed : Option Row → Option ℕ
        seed o = option_map (λ row. row.seed) o

        by : (a b : Option Row) → slice_get (rows_with v told) 0 ≡ a
            → slice_get (rows_with v rows) 0 ≡ b
            → seed (slice_get (rows_with v told) 0) ≡ seed (slice_get (rows_with v rows) 0)
        by None None p q = ap seed p ∙ sym (ap seed q)
        by None (Some f) p q =
            absurd (omega (
              arith,
              none-long (rows_with v told) p,
              slice_get_within (rows_with v rows) 0 f q,
              counts-alike v,
            ))
        by (Some e) None p q =
            absurd (omega (
              arith,
              none-long (rows_with v rows) q,
              slice_get_within (rows_with v told) 0 e p,
              counts-alike v,
            ))
        by (Some e) (Some f) p q =
            let there = passing-told v 0 e p in
            let back = passing-row v 0 f q in
            let low = first-least setup (λ c. 1) (test v) 0 cs f there.0 e q there.1 there.2 in
            let high = first-least setup often (test v) 0 cs e (back.0).place (back.0).early p
            (back.0).at back.1 in
            let same : e.seed ≡ f.seed = omega (arith, low, high, (back.0).low) in
            ap seed p ∙ ap (λ n. Some n) same ∙ sym (ap seed q)

    alike : (v : Verdict) → AreAlike (rows_with v told) (rows_with v rows)
    alike v = record {
      long = counts-alike v;
      there = λ k a at.
          let found = passing-told v k a at in
          let own = filter-has (test v) rows found.0 a found.1 found.2 in
          (own.0, a, own.1, refl);
      back = λ k a at.
          let found = passing-row v k a at in
          let own = filter-has (test v) told (found.0).place (found.0).early (found.0).at found.1 in
          (own.0, (found.0).early, own.1, (found.0).steps);
      first = firsts v;
    }

    -- ---- the ranking

    first-row : (a : Group) → IsGroup told a
        → (row : Row) × (k : ℕ) × (slice_get told k ≡ Some row) × (row.seed ≡ a.first)
        × (a.verdict ≡ row.verdict)
    first-row a is = by (slice_get (rows_with a.verdict told) 0) refl
      where
        by : (o : Option Row) → slice_get (rows_with a.verdict told) 0 ≡ o
            → (row : Row) × (k : ℕ) × (slice_get told k ≡ Some row) × (row.seed ≡ a.first)
            × (a.verdict ≡ row.verdict)
        by None none =
            absurd (let e : None ≡ Some a.first =
            sym (ap (λ (o : Option Row). option_map (λ row. row.seed) o) none)
            ∙ (is.sums).first in cc)
        by (Some row) at =
            let e : Some row.seed ≡ Some a.first =
            sym (ap (λ (o : Option Row). option_map (λ row. row.seed) o) at)
            ∙ (is.sums).first in
            let own = filter-item (test a.verdict) told 0 row at in (
              row,
              own.0,
              own.1,
              (let same : row.seed ≡ a.first = cc in same),
              equal a.verdict row.verdict own.2,
            )

    one-verdict : (a b : Group) → IsGroup told a → IsGroup told b → a.first ≡ b.first
        → a.verdict ≡ b.verdict
    one-verdict a b is too same =
        let p = first-row a is in
        let q = first-row b too in
        let c = in-spread setup often 0 cs p.1 p.0 p.2 in
        let d = in-spread setup often 0 cs q.1 q.0 q.2 in
        let at = row-of setup (0 + c.0) c.1 p.0 c.3 in
        let there = row-of setup (0 + d.0) d.1 q.0 d.3 in
        let place : c.0 ≡ d.0 = omega (arith, at.seed, there.seed, p.3, q.3, same) in
        let choices : ◌≡◌ {A = Option Choice} (Some c.1) (Some d.1) =
        sym c.2 ∙ ap (slice_get cs) place ∙ d.2 in
        let choice : c.1 ≡ d.1 = cc in
        let both : ◌≡◌ {A = Option Row} (Some p.0) (Some q.0) =
        sym c.3 ∙ (λ i. row_of_choice setup (0 + place i) (choice i)) ∙ d.3 in
        let row : p.0 ≡ q.0 = cc in
        p.4 ∙ ap (λ (r : Row). r.verdict) row ∙ sym q.4

    pub ranked : (groups : List Group) → IsRanking told groups → IsRanking rows groups
    ranked groups is = ranking-alike told rows groups alike one-verdict is
