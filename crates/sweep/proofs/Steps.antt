-- How a sweep goes on: a choice that repeats a run stands for none, and is passed by; any other is
-- counted for those for which it stands.
use Rattle.std.specs.Prelude.{slice_get, max, replicate}
use Rattle.std.specs.Option.{option_map}
use Rattle.std.proofs.Common.{◌≡◌, ℕ, zero, suc, ◌+◌, ◌-◌, ◌<◌, ◌≤◌, List, [], ◌++◌, Option}
use Rattle.std.proofs.Common.{Some, length, take, drop, sym, ap, subst, ◌∙◌}
use Rattle.std.proofs.Common.{arith, inl, inr}
use Rattle.std.proofs.Math.Nat.{le-max_left, le-max_right, max-le}
use Rattle.std.proofs.lemmas.Bool.{cases_eq}
use Rattle.std.proofs.lemmas.List.{append-nil, length-append, length-replicate, length-take-le}
use Rattle.std.proofs.lemmas.List.{take_all, take-append-drop}
use Rattle.std.proofs.lemmas.Option.{slice_get_within}
use Rattle.pct_ask.specs.declared.event.Row.{Row}
use Rattle.pct_ask.specs.declared.verdict.Outcome.TheVariants.{Verdict as Ends}
use Rattle.worker_run.specs.Run.{Run}
use Rattle.worker_run.specs.declared.played.Played.{Played}
use Rattle.failure_rank.specs.Growing.{IsTally}
use Rattle.failure_rank.specs.declared.tally.Tally.{Tally}
use Rattle.sweep.specs.Choices.{choice_of, choice_count}
use Rattle.sweep.specs.declared.choice.Choice.{Choice}
use Rattle.sweep.specs.declared.common.Reach.{Reach}
use Rattle.sweep.specs.Rows.{SweepSetup, leads, row_of_run, row_of_choice, choices_of}
use Rattle.sweep.specs.Weights.{weight, top, copies, spread, often_in}
use Rattle.sweep.specs.Batches.{IsChoiceAt, IsRunOfChoice, HasCounted, HavePointAbove}
use Rattle.sweep.proofs.Places.{listed-choice, item-at}
use Rattle.sweep.proofs.Rows.{length-choices, take-next}
use Rattle.sweep.proofs.Clips.{clip, clip-like, clipped, none-below}
use Rattle.sweep.proofs.Repeats.{same-leads}
use Rattle.sweep.proofs.Spreads.{own-row, spread-more, spread-parts}
use Rattle.sweep.proofs.Totals.{runs}
use Rattle.sweep.proofs.Whole.{length-told}

module _ (setup : SweepSetup) where
  abbrev cs : List Choice
  cs = choices_of setup

  abbrev told_to : ℕ → List Row
  told_to place = spread (often_in setup) setup 0 (take place cs)

  -- the rows of one choice more
  told-next : (place : ℕ) (choice : Choice) → IsChoiceAt setup place choice
      → told_to (place + 1)
      ≡ told_to place ++ copies (often_in setup choice) (row_of_choice setup place choice)
  told-next place choice at =
      let within = slice_get_within cs place choice at in
      let long : 0 + length (take place cs) ≡ place =
      omega (arith, length-take-le place cs (omega arith)) in
      ap (spread (often_in setup) setup 0) (take-next cs place choice at)
      ∙ spread-more setup (often_in setup) 0 (take place cs) choice
      ∙ ap (λ n. told_to place ++ copies (often_in setup choice) (row_of_choice setup n choice))
      long

  -- they are no more than all choices
  told-fits : (place : ℕ) → length (told_to place)
      ≤ choice_count setup.deal.threads setup.steps setup.many
  told-fits place =
      let rest = spread (often_in setup) setup (0 + length (take place cs)) (drop place cs) in
      let whole : length (told_to place ++ rest)
      ≡ choice_count setup.deal.threads setup.steps setup.many =
      ap length (sym (spread-parts setup (often_in setup) 0 (take place cs) (drop place cs))
      ∙ ap (spread (often_in setup) setup 0) (take-append-drop place cs))
      ∙ length-told setup in
      omega (arith, length-append (told_to place) rest, whole)

  choice-at : (place : ℕ) → place < choice_count setup.deal.threads setup.steps setup.many
      → (choice : Choice) × IsChoiceAt setup place choice
  choice-at place within =
      item-at cs place
      (omega (arith, within, length-choices setup.deal.threads setup.steps setup.many))

  -- the places up to a further one, of which each is below a bound on the runs
  short-next : (reach : Reach) (long : ℕ) (choice : Choice) (ran : Run)
      → IsChoiceAt setup reach.place choice → leads setup choice.order choice.points ≡ Some ran
      → length ran.0 ≤ long → reach.longest ≤ long
      → ((place : ℕ) (c : Choice) (r : Run) → place < reach.place → IsChoiceAt setup place c
      → leads setup c.order c.points ≡ Some r → length r.0 ≤ reach.longest)
      → (place : ℕ) (c : Choice) (r : Run) → place < reach.place + 1 → IsChoiceAt setup place c
      → leads setup c.order c.points ≡ Some r → length r.0 ≤ long
  short-next reach long choice ran at is short more before place c r less there ran_there =
      elim (cases_eq place reach.place) [
        | inl here ↦
            let choices : ◌≡◌ {A = Option Choice} (Some c) (Some choice) =
            sym there ∙ ap (slice_get cs) here ∙ at in
            let same : c ≡ choice = cc in
            let both : ◌≡◌ {A = Option Run} (Some r) (Some ran) =
            sym ran_there ∙ ap (λ (c : Choice). leads setup c.order c.points) same ∙ is in
            let one : r ≡ ran = cc in
            omega (arith, ap (λ (r : Run). length r.0) one, short)
        | inr other ↦
            omega (arith, before place c r (omega (arith, less, other)) there ran_there, more)
      ]

  module _ (some : 1 ≤ setup.steps) where
    -- a choice with a point above the longest run repeats a run before it
    repeats-one : (reach : Reach) (tally : Tally) (choice : Choice)
        → HasCounted setup reach tally → IsChoiceAt setup reach.place choice
        → weight setup.steps reach.longest choice.points ≡ 0
        → HasCounted setup (record reach { place = reach.place + 1 }) tally
    repeats-one reach tally choice before at none =
        let within : reach.place < choice_count setup.deal.threads setup.steps setup.many =
        omega (
          arith,
          slice_get_within cs reach.place choice at,
          length-choices setup.deal.threads setup.steps setup.many,
        ) in
        let t = reach.longest in
        let moved = clipped setup.deal.threads setup.steps setup.many t reach.place choice some
        before.some at within in
        let early = clip t choice.points in
        let ran = runs setup.deal setup.bodies choice.order early setup.limit in
        let short : length (ran.0).0 ≤ t =
        before.short moved.place' (choice_of choice.order early) ran.0 (moved.less none) moved.at
        ran.1 in
        let same : leads setup choice.order choice.points ≡ Some ran.0 =
        same-leads setup choice.order early choice.points t ran.0 ran.1 short
        (clip-like t choice.points) in
        let low : top (leads setup choice.order choice.points) ≤ t =
        subst (λ r. top r ≤ t) (sym same)
        (max-le {a = length (ran.0).0} {b = 1} {k = t} short before.some) in
        let stands : often_in setup choice ≡ 0 =
        none-below setup.steps t (top (leads setup choice.order choice.points)) choice.points
        (listed-choice setup.deal.threads setup.steps setup.many reach.place choice at).1.within low
        none in
        let same_rows : told_to reach.place ≡ told_to (reach.place + 1) =
        sym (told-next reach.place choice at
        ∙ ap (λ n. told_to reach.place ++ copies n (row_of_choice setup reach.place choice)) stands
        ∙ ap (λ r. told_to reach.place ++ copies 0 r) (own-row setup reach.place choice).1
        ∙ append-nil (told_to reach.place)) in
        record {
          some = before.some;
          short = short-next reach t choice ran.0 at same short (omega arith) before.short;
          counted = subst (λ rows. IsTally rows tally) same_rows before.counted;
        }

    -- and so do all up to the next that is to be run
    pub pass-by : (reach : Reach) (tally : Tally) (end : ℕ) → reach.place ≤ end
        → end ≤ choice_count setup.deal.threads setup.steps setup.many
        → HavePointAbove setup reach.longest reach.place end → HasCounted setup reach tally
        → HasCounted setup (record reach { place = end }) tally
    pass-by reach tally end order within above before =
        let P : ℕ → Type 0 = λ n. HasCounted setup (record reach { place = n }) tally in
        subst P (let e : reach.place + (end - reach.place) ≡ end = omega (arith, order) in e)
        (by (end - reach.place) (omega (arith, order)))
      where
        by : (n : ℕ) → reach.place + n ≤ end
            → HasCounted setup (record reach { place = reach.place + n }) tally
        by zero few =
            let P : ℕ → Type 0 = λ n. HasCounted setup (record reach { place = n }) tally in
            subst P (let e : reach.place ≡ reach.place + 0 = omega arith in e) before
        by (suc n) few =
            let here = reach.place + n in
            let found = choice-at here (omega (arith, few, within)) in
            let none = above here found.0 (omega arith) (omega (arith, few)) found.1 in
            let P : ℕ → Type 0 = λ n. HasCounted setup (record reach { place = n }) tally in
            subst P (let e : here + 1 ≡ reach.place + suc n = omega arith in e)
            (repeats-one (record reach { place = here }) tally found.0
            (by n (omega (arith, few))) found.1 none)

  -- one more run, for all choices for which it stands
  pub run-counted : (reach now : Reach) (tally new : Tally) (played : Played) (row : Row)
      (stands : ℕ) (is : IsRunOfChoice setup reach.place played) → HasCounted setup reach tally
      → row.seed ≡ reach.place → row.steps ≡ length played.events
      → played.outcome ≡ Ends row.verdict
      → stands ≡ weight setup.steps (max (length played.events) 1) (is.choice).points
      → IsTally (told_to reach.place ++ replicate stands row) new
      → now.place ≡ reach.place + 1 → now.longest ≡ max reach.longest (length played.events)
      → HasCounted setup now new
  run-counted reach now tally new played row stands is before seed long ends many counted at last =
      let choice = is.choice in
      let ran : Run = (played.events, is.run.verdict) in
      let made : leads setup choice.order choice.points ≡ Some ran = is.run.steps in
      let both : Ends is.run.verdict ≡ Ends row.verdict = sym is.run.ends ∙ ends in
      let verdict : is.run.verdict ≡ row.verdict = cc in
      let own : row_of_run reach.place ran ≡ row =
      λ i. record { seed = (sym seed) i; steps = (sym long) i; verdict = verdict i } in
      let its_row : row_of_choice setup reach.place choice ≡ Some row =
      ap (λ (r : Option Run). option_map (row_of_run reach.place) r) made ∙ ap (λ r. Some r) own in
      let often : often_in setup choice ≡ stands =
      ap (λ (r : Option Run). weight setup.steps (top r) choice.points) made ∙ sym many in
      let rows : told_to reach.place ++ replicate stands row ≡ told_to (reach.place + 1) =
      sym (told-next reach.place choice is.at
      ∙ (λ i. told_to reach.place ++ copies (often i) (its_row i))) in
      let P : ℕ → Type 0 = λ n. IsTally (told_to n) new in
      let S : ℕ → ℕ → Type 0 = λ end bound. (place : ℕ) (c : Choice) (r : Run) → place < end
      → IsChoiceAt setup place c → leads setup c.order c.points ≡ Some r → length r.0 ≤ bound in
      record {
        some = omega (arith, last, le-max_left reach.longest (length played.events), before.some);
        short =
            subst (λ end. S end now.longest) (sym at)
            (subst (λ bound. S (reach.place + 1) bound) (sym last)
            (short-next reach (max reach.longest (length played.events)) choice ran is.at made
            (le-max_right reach.longest (length played.events))
            (le-max_left reach.longest (length played.events)) before.short));
        counted = subst P (sym at) (subst (λ rows. IsTally rows new) rows counted);
      }

  -- there is room for it
  pub run-fits : (place : ℕ) (choice : Choice) (stands : ℕ) → IsChoiceAt setup place choice
      → ((ran : Run) → leads setup choice.order choice.points ≡ Some ran
      → stands ≡ weight setup.steps (max (length ran.0) 1) choice.points)
      → length (told_to place) + stands ≤ choice_count setup.deal.threads setup.steps setup.many
  run-fits place choice stands at many =
      let ran = runs setup.deal setup.bodies choice.order choice.points setup.limit in
      let often : often_in setup choice ≡ stands =
      ap (λ (r : Option Run). weight setup.steps (top r) choice.points) ran.1
      ∙ sym (many ran.0 ran.1) in
      let row = own-row setup place choice in
      let long : length (copies (often_in setup choice) (row_of_choice setup place choice))
      ≡ stands =
      ap (λ r. length (copies (often_in setup choice) r)) row.1
      ∙ length-replicate (often_in setup choice) row.0 ∙ often in
      omega (
        arith,
        told-fits (place + 1),
        ap length (told-next place choice at),
        length-append (told_to place)
            (copies (often_in setup choice) (row_of_choice setup place choice)),
        long,
      )

  -- no rows yet
  pub none-counted : (reach : Reach) (tally : Tally) → reach.place ≡ 0 → reach.longest ≡ 1
      → IsTally [] tally → HasCounted setup reach tally
  none-counted reach tally none one counted = record {
    some = omega (arith, one);
    short = λ place c r less at is. absurd (omega (arith, less, none));
    counted = subst (λ n. IsTally (told_to n) tally) (sym none) counted;
  }

  -- all rows
  pub all-counted : (reach : Reach) (tally : Tally) → HasCounted setup reach tally
      → choice_count setup.deal.threads setup.steps setup.many ≤ reach.place
      → IsTally (spread (often_in setup) setup 0 cs) tally
  all-counted reach tally all end =
      subst (λ cs. IsTally (spread (often_in setup) setup 0 cs) tally)
      (take_all reach.place cs
      (omega (arith, end, length-choices setup.deal.threads setup.steps setup.many)))
      all.counted
