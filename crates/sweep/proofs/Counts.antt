-- A sweep's groups are counted by the choices that have their verdicts.
use Rattle.std.specs.Prelude.{slice_get, map, sum_by, count_by, flat_map, Contains}
use Rattle.std.proofs.Common.{◌≡◌, ◌≢◌, ℕ, zero, suc, ◌+◌, ◌*◌, ◌<◌, ◌≤◌, Bool, cond}
use Rattle.std.proofs.Common.{Option, Some, None, List, [], ◌∷◌, ◌++◌, length, get_or, refl, sym}
use Rattle.std.proofs.Common.{ap}
use Rattle.std.proofs.Common.{subst, ◌∙◌, arith, append_assoc, append-nil}
use Rattle.std.specs.Option.{option_map}
use Rattle.std.proofs.lemmas.List.Sums.{sum_by-cons, length-filter}
use Rattle.std.proofs.lemmas.List.Elements.{Contains-get_or}
use Rattle.std.proofs.lemmas.Option.{slice_get_within}
use Rattle.pct_ask.specs.declared.event.Row.{Row}
use Rattle.pct_ask.specs.declared.verdict.Verdict.{Verdict}
use Rattle.pct_ask.specs.declared.verdict.Verdict.TheVariants.{Passed}
use Rattle.pct_ask.specs.SameVerdict.{same_verdict}
use Rattle.worker_run.specs.Run.{Run}
use Rattle.failure_rank.specs.declared.group.Group.{Group}
use Rattle.failure_rank.specs.Groups.{rows_with, SumsUp, IsGroup, RanksBefore}
use Rattle.failure_rank.specs.Growing.{group_of, with_row}
use Rattle.failure_rank.proofs.Laws.{same-true, equal, same-false, SumsUp-more, SumsUp-one}
use Rattle.failure_rank.proofs.Laws.{verdict_cases, same_group, not_both}
use Rattle.turn_book.specs.Chances.{threads_below}
use Rattle.choices.specs.Orders.{orders}
use Rattle.choices.specs.PointLists.{pointlists}
use Rattle.choices.specs.Counting.{has_verdict}
use Rattle.choices.proofs.laws.ListedOnce.{all-orders, all-points}
use Rattle.choices.proofs.laws.ListedOnce.{listed-all}
use Rattle.sweep.specs.Choices.{choice_of, choice_count}
use Rattle.sweep.specs.declared.choice.Choice.{Choice}
use Rattle.sweep.specs.Rows.{SweepSetup, row_of_choice, rows_from, choices_of}
use Rattle.sweep.specs.Swept.{IsSweep, hits_of, RunsTo, IsFailure, AllPass, IsCounted}
use Rattle.sweep.specs.Swept.{SweepsAreCounted}
use Rattle.sweep.specs.declared.sweeping.Swept.{Swept}
use Rattle.sweep.proofs.Places.{get-flat, in-flat}
use Rattle.sweep.proofs.Lists.{filter-item, filter-has, filter-first, sum-zero, sum-both}
use Rattle.sweep.proofs.Lists.{sum-ones, sum-same, sum-flat, at-place, got, is-in}
use Rattle.sweep.proofs.Rows.{length-choices}
use Rattle.sweep.proofs.RowLemmas.{same-sym, IsRowOf, row-of, ones, has, length-filter-cons}

-- ---- rows and choices

-- the choice of a row, and the row of a choice
choice-of : (setup : SweepSetup) (place : ℕ) (cs : List Choice) (rows : List Row)
    → map Some rows ≡ rows_from setup place cs → (k : ℕ) (row : Row) → slice_get rows k ≡ Some row
    → (choice : Choice) × (slice_get cs k ≡ Some choice) × IsRowOf setup (place + k) choice row
choice-of setup place cs [] are k row at = absurd cc
choice-of setup place [] (r ∷ rows) are k row at = absurd cc
choice-of setup place (c ∷ cs) (r ∷ rows) are zero row at =
    let head : row_of_choice setup place c ≡ Some r = cc in
    let same : r ≡ row = cc in
    let R : ℕ → Type 0 = λ n. IsRowOf setup n c row in (
      c,
      refl,
      subst R (let e : place ≡ place + 0 = omega arith in e)
          (row-of setup place c row (head ∙ ap (λ z. Some z) same)),
    )
choice-of setup place (c ∷ cs) (r ∷ rows) are (suc k) row at =
    let tail : map Some rows ≡ rows_from setup (suc place) cs = cc in
    let rest = choice-of setup (suc place) cs rows tail k row at in
    let R : ℕ → Type 0 = λ n. IsRowOf setup n rest.0 row in
    (rest.0, rest.1, subst R (let e : suc place + k ≡ place + suc k = omega arith in e) rest.2)

row-at : (setup : SweepSetup) (place : ℕ) (cs : List Choice) (rows : List Row)
    → map Some rows ≡ rows_from setup place cs → (k : ℕ) (choice : Choice)
    → slice_get cs k ≡ Some choice
    → (row : Row) × (slice_get rows k ≡ Some row) × IsRowOf setup (place + k) choice row
row-at setup place [] rows are k choice at = absurd cc
row-at setup place (c ∷ cs) [] are k choice at = absurd cc
row-at setup place (c ∷ cs) (r ∷ rows) are zero choice at =
    let head : row_of_choice setup place c ≡ Some r = cc in
    let same : c ≡ choice = cc in
    let R : ℕ → Type 0 = λ n. IsRowOf setup n choice r in (
      r,
      refl,
      subst R (let e : place ≡ place + 0 = omega arith in e)
          (row-of setup place choice r (ap (row_of_choice setup place) (sym same) ∙ head)),
    )
row-at setup place (c ∷ cs) (r ∷ rows) are (suc k) choice at =
    let tail : map Some rows ≡ rows_from setup (suc place) cs = cc in
    let rest = row-at setup (suc place) cs rows tail k choice at in
    let R : ℕ → Type 0 = λ n. IsRowOf setup n choice rest.0 in
    (rest.0, rest.1, subst R (let e : suc place + k ≡ place + suc k = omega arith in e) rest.2)

length-rows : (setup : SweepSetup) (place : ℕ) (cs : List Choice) (rows : List Row)
    → map Some rows ≡ rows_from setup place cs → length rows ≡ length cs
length-rows setup place [] [] are = refl
length-rows setup place (c ∷ cs) [] are = absurd cc
length-rows setup place [] (r ∷ rows) are = absurd cc
length-rows setup place (c ∷ cs) (r ∷ rows) are =
    let tail : map Some rows ≡ rows_from setup (suc place) cs = cc in
    ap suc (length-rows setup (suc place) cs rows tail)

-- ---- the rows of a verdict are as many as the choices that have it

rows-counted : (setup : SweepSetup) (verdict : Verdict) (place : ℕ) (cs : List Choice)
    (rows : List Row)
    → map Some rows ≡ rows_from setup place cs
    → length (rows_with verdict rows) ≡ count_by (has setup verdict) cs
rows-counted setup verdict place [] [] are = refl
rows-counted setup verdict place (c ∷ cs) [] are = absurd cc
rows-counted setup verdict place [] (r ∷ rows) are = absurd cc
rows-counted setup verdict place (c ∷ cs) (r ∷ rows) are =
    let head : row_of_choice setup place c ≡ Some r = cc in
    let tail : map Some rows ≡ rows_from setup (suc place) cs = cc in
    let is = row-of setup place c r head in
    let here : has setup verdict c ≡ same_verdict verdict r.verdict =
    ap (has_verdict verdict) is.is_run ∙ same-sym r.verdict verdict in
    let one : ones (has setup verdict c) ≡ ones (same_verdict verdict r.verdict) = ap ones here in
    omega (
      arith,
      length-filter-cons (λ (row : Row). same_verdict verdict row.verdict) r rows,
      rows-counted setup verdict (suc place) cs rows tail,
      sum_by-cons (λ choice. cond (has setup verdict choice) 1 0) c cs,
      one,
    )

count-flat : (f : Choice → Bool) (os ls : List (List ℕ))
    → count_by f (flat_map (λ o. map (choice_of o) ls) os)
    ≡ sum_by (λ o. count_by (λ ps. f (choice_of o ps)) ls) os
count-flat f os ls = sum-flat (λ c. cond (f c) 1 0) choice_of os ls

-- ---- a verdict that some row has, has a group

group-from : (done rest : List Row) (group : Group) → SumsUp done group
    → (other : Group) × SumsUp (done ++ rest) other × (other.verdict ≡ group.verdict)
group-from done [] group is =
    (group, subst (λ rows. SumsUp rows group) (sym (append-nil done)) is, refl)
group-from done (r ∷ rest) group is =
    let sums = SumsUp-more done group r is in
    let more = group-from (done ++ r ∷ []) rest (with_row group r) sums in (
      more.0,
      subst (λ rows. SumsUp rows more.0) (append_assoc done (r ∷ []) rest) more.1,
      more.2,
    )

group-there : (rows : List Row) (verdict : Verdict) → verdict ≢ Passed
    → 1 ≤ length (rows_with verdict rows)
    → (group : Group) × IsGroup rows group × (group.verdict ≡ verdict)
group-there rows verdict failed some = by (rows_with verdict rows) refl
  where
    by : (own : List Row) → rows_with verdict rows ≡ own
        → (group : Group) × IsGroup rows group × (group.verdict ≡ verdict)
    by [] is = absurd (let none = ap length is in omega arith)
    by (r ∷ own) is =
        let there = filter-item (λ (row : Row). same_verdict verdict row.verdict) rows 0 r
        (ap (λ l. slice_get l 0) is) in
        let same : verdict ≡ r.verdict = equal verdict r.verdict there.2 in
        let made = group-from (r ∷ []) own (group_of r) (SumsUp-one r) in
        let own_verdict : made.0.verdict ≡ verdict = made.2 ∙ sym same in (
          made.0,
          record {
            failed = λ e. failed (sym own_verdict ∙ e);
            sums =
                subst (λ v. SumsUp (rows_with v rows) made.0) (sym own_verdict)
                (subst (λ l. SumsUp l made.0) (sym is) made.1);
          },
          own_verdict,
        )

-- ---- the groups and those that passed are all rows

-- in how many groups a row is
abbrev groups_with : List Group → Verdict → ℕ
groups_with groups verdict = count_by (λ (g : Group). same_verdict g.verdict verdict) groups

-- the rows of all groups, one by one
rows-of-groups : (groups : List Group) (rows : List Row)
    → sum_by (λ (g : Group). length (rows_with g.verdict rows)) groups
    ≡ sum_by (λ (r : Row). groups_with groups r.verdict) rows
rows-of-groups groups [] = sum-zero groups
rows-of-groups groups (r ∷ rows) =
    sums groups
    ∙ sum-both (λ (g : Group). ones (same_verdict g.verdict r.verdict))
    (λ (g : Group). length (rows_with g.verdict rows)) groups
    ∙ ap (λ n. groups_with groups r.verdict + n) (rows-of-groups groups rows)
    ∙ sym (sum_by-cons (λ (r : Row). groups_with groups r.verdict) r rows)
  where
    sums : (gs : List Group)
        → sum_by (λ (g : Group). length (rows_with g.verdict (r ∷ rows))) gs
        ≡ sum_by (λ (g : Group). ones (same_verdict g.verdict r.verdict)
        + length (rows_with g.verdict rows)) gs
    sums [] = refl
    sums (g ∷ gs) =
        omega (
          arith,
          sum_by-cons (λ (g : Group). length (rows_with g.verdict (r ∷ rows))) g gs,
          sum_by-cons (λ (g : Group). ones (same_verdict g.verdict r.verdict)
              + length (rows_with g.verdict rows)) g gs,
          length-filter-cons (λ (row : Row). same_verdict g.verdict row.verdict) r rows,
          sums gs,
        )

-- no group has the verdict
groups-none : (groups : List Group) (verdict : Verdict)
    → ((k : ℕ) (g : Group) → slice_get groups k ≡ Some g → g.verdict ≢ verdict)
    → groups_with groups verdict ≡ 0
groups-none [] verdict none = refl
groups-none (g ∷ gs) verdict none =
    let here : ones (same_verdict g.verdict verdict) ≡ 0 =
    ap ones (same-false g.verdict verdict (none 0 g refl)) in
    omega (
      arith,
      sum_by-cons (λ (g : Group). ones (same_verdict g.verdict verdict)) g gs,
      here,
      groups-none gs verdict (λ k h at. none (suc k) h at),
    )

-- one group has it, where no two have one verdict
groups-one : (groups : List Group) (verdict : Verdict) (k : ℕ) (g : Group)
    → ((i j : ℕ) (a b : Group) → i < j → slice_get groups i ≡ Some a → slice_get groups j ≡ Some b
    → a.verdict ≢ b.verdict)
    → slice_get groups k ≡ Some g → g.verdict ≡ verdict → groups_with groups verdict ≡ 1
groups-one [] verdict k g apart at is = absurd cc
groups-one (h ∷ gs) verdict zero g apart at is =
    let same : h ≡ g = cc in
    let here : ones (same_verdict h.verdict verdict) ≡ 1 =
    ap ones (same-true h.verdict verdict (ap (λ (g : Group). g.verdict) same ∙ is)) in
    omega (
      arith,
      sum_by-cons (λ (g : Group). ones (same_verdict g.verdict verdict)) h gs,
      here,
      groups-none gs verdict (λ k f there e. apart 0 (suc k) h f (omega arith) refl there
          (ap (λ (g : Group). g.verdict) same ∙ is ∙ sym e)),
    )
groups-one (h ∷ gs) verdict (suc k) g apart at is =
    let here : ones (same_verdict h.verdict verdict) ≡ 0 =
    ap ones (same-false h.verdict verdict (λ e. apart 0 (suc k) h g (omega arith) refl at
    (e ∙ sym is))) in
    omega (
      arith,
      sum_by-cons (λ (g : Group). ones (same_verdict g.verdict verdict)) h gs,
      here,
      groups-one gs verdict k g
          (λ i j a b less x y. apart (suc i) (suc j) a b (omega arith) x y) at is,
    )

module _ (setup : SweepSetup) (swept : Swept) (is : IsSweep setup swept) where
  abbrev rows : List Row
  rows = is.rows

  abbrev groups : List Group
  groups = swept.groups

  abbrev cs : List Choice
  cs = choices_of setup

  hits-are : (verdict : Verdict) → length (rows_with verdict rows) ≡ hits_of setup verdict
  hits-are verdict =
      rows-counted setup verdict 0 cs rows is.are
      ∙ count-flat (has setup verdict) (orders (threads_below setup.deal.threads))
      (pointlists setup.steps setup.many)

  group-at : (k : ℕ) (g : Group) → slice_get groups k ≡ Some g → IsGroup rows g
  group-at k g at = ((is.ranked).members g).0 (is-in groups k g at)

  -- the row of a choice that runs to a verdict
  row-runs : (place : ℕ) (choice : Choice) (verdict : Verdict) (steps : ℕ)
      → slice_get cs place ≡ Some choice → RunsTo setup choice verdict steps
      → (row : Row) × (slice_get rows place ≡ Some row) × (verdict ≡ row.verdict)
      × (steps ≡ row.steps)
  row-runs place choice verdict steps at runs =
      let r = row-at setup 0 cs rows is.are place choice at in
      let both : ◌≡◌ {A = Option Run} (Some (runs.made, verdict)) (Some ((r.2).made, r.0.verdict)) =
      sym runs.is_run ∙ (r.2).is_run in
      let pair : ◌≡◌ {A = Run} (runs.made, verdict) ((r.2).made, r.0.verdict) = cc in (
        r.0,
        r.1,
        ap (λ (u : Run). u.1) pair,
        runs.number ∙ ap (λ (u : Run). length u.0) pair ∙ sym (r.2).steps,
      )

  -- a row's choice runs to its verdict
  runs-row : (k : ℕ) (row : Row) → slice_get rows k ≡ Some row
      → (choice : Choice) × (slice_get cs k ≡ Some choice)
      × RunsTo setup choice row.verdict row.steps × (row.seed ≡ k)
  runs-row k row at =
      let c = choice-of setup 0 cs rows is.are k row at in (
        c.0,
        c.1,
        record { made = (c.2).made; is_run = (c.2).is_run; number = (c.2).steps },
        omega (arith, (c.2).seed),
      )

  abbrev test_of : Group → Row → Bool
  test_of g row = same_verdict g.verdict row.verdict

  first-of : (g : Group) → IsGroup rows g
      → (row : Row) × (slice_get (rows_with g.verdict rows) 0 ≡ Some row) × (row.seed ≡ g.first)
  first-of g group = by (slice_get (rows_with g.verdict rows) 0) refl
    where
      by : (o : Option Row) → slice_get (rows_with g.verdict rows) 0 ≡ o
          → (row : Row) × (slice_get (rows_with g.verdict rows) 0 ≡ Some row)
          × (row.seed ≡ g.first)
      by None none =
          absurd (let e : None ≡ Some g.first =
          sym (ap (λ (o : Option Row). option_map (λ row. row.seed) o) none)
          ∙ (group.sums).first in cc)
      by (Some row) at =
          let e : Some row.seed ≡ Some g.first =
          sym (ap (λ (o : Option Row). option_map (λ row. row.seed) o) at)
          ∙ (group.sums).first in
          (row, at, (let same : row.seed ≡ g.first = cc in same))

  failure : (g : Group) → IsGroup rows g → IsFailure setup g
  failure g group =
      let own = rows_with g.verdict rows in
      let sums = group.sums in
      let some = sums.reached in
      let there = filter-item (test_of g) rows some.0 some.1
      (at-place own some.0 some.1 some.2 some.3) in
      let same : g.verdict ≡ some.1.verdict = equal g.verdict some.1.verdict there.2 in
      let ran = runs-row there.0 some.1 there.1 in
      let R : Verdict → Type 0 = λ v. RunsTo setup ran.0 v g.steps in
      let S : ℕ → Type 0 = λ n. RunsTo setup ran.0 some.1.verdict n in
      let one = first-of g group in
      let earliest = filter-first (test_of g) rows one.0 one.1 in
      let early = runs-row earliest.0 one.0 earliest.1 in
      let at_first : g.first ≡ earliest.0 = sym one.2 ∙ early.3 in
      let own_verdict : one.0.verdict ≡ g.verdict =
      sym (equal g.verdict one.0.verdict earliest.2) in
      record {
        failed = group.failed;
        count = sums.count ∙ hits-are g.verdict;
        some = omega (arith, some.2, sums.count);
        reached = (
          there.0,
          ran.0,
          ran.1,
          subst R (sym same) (subst S some.4 ran.2),
        );
        least = λ place choice steps at runs.
            let r = row-runs place choice g.verdict steps at runs in
            let found = filter-has (test_of g) rows place r.0 r.1
            (same-true g.verdict r.0.verdict r.2) in
            let low = listed-all (λ (row : Row). g.steps ≤ row.steps) own found.0 r.0 sums.least
            found.1 in
            omega (arith, low, r.3);
        first = (
          early.0,
          one.0.steps,
          ap (slice_get cs) at_first ∙ early.1,
          subst (λ v. RunsTo setup early.0 v one.0.steps) own_verdict early.2,
        );
        none_before = λ place choice steps less at runs.
            let r = row-runs place choice g.verdict steps at runs in
            let no = earliest.3 place r.0 (omega (arith, less, at_first)) r.1 in
            let yes = same-true g.verdict r.0.verdict r.2 in
            cc;
      }

  -- each failing verdict has a group
  every : (verdict : Verdict) → verdict ≢ Passed → 1 ≤ length (rows_with verdict rows)
      → (group : Group) × Contains groups group × (group.verdict ≡ verdict)
  every verdict failed some =
      let made = group-there rows verdict failed some in
      (made.0, ((is.ranked).members made.0).1 made.1, made.2)

  apart : (i j : ℕ) (a b : Group) → i < j → slice_get groups i ≡ Some a
      → slice_get groups j ≡ Some b → a.verdict ≢ b.verdict
  apart i j a b less at there same =
      let one = got groups i a a at in
      let within = slice_get_within groups j b there in
      let equal_groups = same_group rows a b (group-at i a at) (group-at j b there) same in
      let other : get_or groups j a ≡ a = got groups j b a there ∙ sym equal_groups in
      let order = (is.ranked).order i j a less within in
      let self : RanksBefore rows a a =
      subst (λ g. RanksBefore rows a g) other (subst (λ g. RanksBefore rows g (get_or groups j a))
      one order) in
      not_both rows a a self self

  each-once : (k : ℕ) (row : Row) → slice_get rows k ≡ Some row
      → ones (same_verdict Passed row.verdict) + groups_with groups row.verdict ≡ 1
  each-once k row at =
      verdict_cases row.verdict Passed
      (ones (same_verdict Passed row.verdict) + groups_with groups row.verdict ≡ 1)
      (λ e.
      let yes : ones (same_verdict Passed row.verdict) ≡ 1 =
      ap ones (same-true Passed row.verdict (sym e)) in
      let none = groups-none groups row.verdict
      (λ i g there same. (group-at i g there).failed (same ∙ e)) in
      omega (arith, yes, none))
      (λ failed.
      let no : ones (same_verdict Passed row.verdict) ≡ 0 =
      ap ones (same-false Passed row.verdict (λ e. failed (sym e))) in
      let found = filter-has (λ (r : Row). same_verdict row.verdict r.verdict) rows k row at
      (same-true row.verdict row.verdict refl) in
      let within = slice_get_within (rows_with row.verdict rows) found.0 row found.1 in
      let made = every row.verdict failed (omega (arith, within)) in
      let there = at-place groups (made.1).0 made.0 (made.1).1 (made.1).2 in
      let one = groups-one groups row.verdict (made.1).0 made.0 apart there made.2 in
      omega (arith, no, one))

  whole : swept.passed + sum_by (λ (g : Group). g.count) groups
      ≡ choice_count setup.deal.threads setup.steps setup.many
  whole =
      let all = sum-ones (λ (r : Row). ones (same_verdict Passed r.verdict)
      + groups_with groups r.verdict) rows each-once in
      let split = sum-both (λ (r : Row). ones (same_verdict Passed r.verdict))
      (λ (r : Row). groups_with groups r.verdict) rows in
      let passing = length-filter (λ (r : Row). same_verdict Passed r.verdict) rows in
      let counts = sum-same (λ (g : Group). g.count)
      (λ (g : Group). length (rows_with g.verdict rows)) groups
      (λ k g at. (group-at k g at).sums.count) in
      omega (
        arith,
        is.passed,
        all,
        split,
        passing,
        counts,
        rows-of-groups groups rows,
        length-rows setup 0 cs rows is.are,
        length-choices setup.deal.threads setup.steps setup.many,
      )

  passes : length groups ≡ 0 → AllPass setup
  passes none order points ordered pointed =
      let o = (all-orders setup.deal.threads).each order ordered in
      let p = (all-points setup.steps setup.many).each points pointed in
      let lists = pointlists setup.steps setup.many in
      let at = get-flat choice_of (orders (threads_below setup.deal.threads))
      lists o.place p.place order points o.stands p.stands in
      let place = o.place * length lists + p.place in
      let r = row-at setup 0 cs rows is.are place (choice_of order points) at in
      verdict_cases r.0.verdict Passed
      ((steps : ℕ) × RunsTo setup (choice_of order points) Passed steps)
      (λ e. (
        r.0.steps,
        record {
          made = (r.2).made;
          is_run = (r.2).is_run ∙ ap (λ v. Some ((r.2).made, v)) e;
          number = (r.2).steps;
        },
      ))
      (λ failed.
      let found = filter-has (λ (x : Row). same_verdict r.0.verdict x.verdict) rows place r.0 r.1
      (same-true r.0.verdict r.0.verdict refl) in
      let within = slice_get_within (rows_with r.0.verdict rows) found.0 r.0 found.1 in
      let made = every r.0.verdict failed (omega (arith, within)) in
      absurd (omega (arith, (made.1).1, none)))

  no-failure : AllPass setup → (k : ℕ) (g : Group) → slice_get groups k ≡ Some g → ⊥
  no-failure all k g at =
      let fails = failure g (group-at k g at) in
      let choice = (fails.first).0 in
      let listed = in-flat (orders (threads_below setup.deal.threads))
      (pointlists setup.steps setup.many) g.first choice (fails.first).2 in
      let runs = all choice.order choice.points
      ((all-orders setup.deal.threads).none_else listed.0 choice.order listed.2)
      ((all-points setup.steps setup.many).none_else listed.1 choice.points listed.3) in
      let both : ◌≡◌ {A = Option Run} (Some (((fails.first).3).made, g.verdict))
      (Some ((runs.1).made, Passed)) = sym ((fails.first).3).is_run ∙ (runs.1).is_run in
      let pair : ◌≡◌ {A = Run} (((fails.first).3).made, g.verdict) ((runs.1).made, Passed) = cc in
      fails.failed (ap (λ (u : Run). u.1) pair)

  empty : AllPass setup → (gs : List Group) → groups ≡ gs → length groups ≡ 0
  empty all [] e = ap length e
  empty all (g ∷ gs) e = absurd (no-failure all 0 g (ap (λ l. slice_get l 0) e))

  pub counted : IsCounted setup swept
  counted = record {
    each = λ k d inside. failure (get_or groups k d)
        (((is.ranked).members (get_or groups k d)).0 (Contains-get_or groups k d inside));
    every = λ verdict failed some. every verdict failed (omega (arith, some, hits-are verdict));
    passed = is.passed ∙ hits-are Passed;
    whole = whole;
    none = (passes, λ all. empty all groups refl);
  }

pub sweeps_counted : SweepsAreCounted
sweeps_counted setup swept is = counted setup swept is
