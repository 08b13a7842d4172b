-- What is reported of a run is one thing.
use Rattle.std.proofs.Common.{◌≡◌, ℕ, List, length, max, Bool, true, false, Option, Some, None, sym}
use Rattle.std.proofs.Common.{subst, ap, ◌∙◌}
use Rattle.std.specs.Prelude.{◌==◌}
use Rattle.pct_ask.specs.declared.Deal.{Deal}
use Rattle.script_tree.specs.ScriptText.{ScriptText}
use Rattle.worker_run.specs.Run.{Run}
use Rattle.pct_top.specs.declared.settings.Report.{Report}
use Rattle.pct_top.specs.declared.settings.Report.TheVariants.{Trace, Races, Locks, Find}
use Rattle.pct_top.specs.Ordered.{OrderFits}
use Rattle.pct_top.specs.Printed.{Printed, printed_text}
use Rattle.pct_top.specs.Runs.{DrawsFrom, is_passed, trace_of_run, printed_trace}
use Rattle.pct_top.specs.Reports.{OfReport, OfOrdered, OfDrawn, OfSeed}
use Rattle.hb_race.specs.Races.{AreRaces}
use Rattle.hb_race.proofs.Laws.{races-unique}
use Rattle.lock_order.specs.Chosen.{IsChosen}
use Rattle.lock_order.proofs.Laws.{chosen-once}
use Rattle.pct_top.specs.commands.Run.{PrintsTrace}
use Rattle.pct_top.specs.commands.Races.{race_text, printed_races, PrintsRaces}
use Rattle.pct_top.specs.commands.Locks.{lock_text, is_order, printed_locks, PrintsLocks}
use Rattle.script_body.specs.Bodies.{bodies_of}
use Rattle.directive_find.proofs.laws.Findings.{one_finding}
use Rattle.pct_top.specs.commands.Find.{found_text, is_pass, printed_finding, PrintsFound}
use Rattle.pct_top.specs.Call.{IsCarriedOut}
use Rattle.pct_top.proofs.Work.{some_same, one_of_order, order_fits}

-- a text that is told is an answer
pub told_answers : (text : List ℕ) (done : Bool) → IsCarriedOut (printed_text text done).status
told_answers text true = tt
told_answers text false = tt

-- and so is what is printed as one
pub answers_as : (printed : Printed) (text : List ℕ) (done : Bool)
    → printed ≡ printed_text text done
    → IsCarriedOut printed.status
answers_as printed text done is =
    subst (λ (p : Printed). IsCarriedOut p.status) (sym is) (told_answers text done)

module _ (script : ScriptText) (deal : Deal) (limit : ℕ) where
  -- ---- the trace

  one_trace : (order points : List ℕ) (p q : Printed) → PrintsTrace script deal order points limit p
      → PrintsTrace script deal order points limit q → p ≡ q
  one_trace order points p q a b =
      (a.2).is ∙ ap (λ (ended : Run). printed_trace script order points limit ended
      (is_passed ended.1)) (some_same a.0 b.0 (sym a.1 ∙ b.1)) ∙ sym (b.2).is

  -- ---- the races

  one_races : (order points : List ℕ) (p q : Printed) → PrintsRaces script deal order points limit p
      → PrintsRaces script deal order points limit q → p ≡ q
  one_races order points p q a b =
      let same = some_same a.0 b.0 (sym a.1 ∙ b.1) in
      let found = subst (λ (ended : Run). AreRaces ended.0 (a.2).0) same (a.2).1 in
      (a.2).2 ∙ ap (printed_races script.names) (races-unique (b.0).0 (a.2).0 (b.2).0 found (b.2).1)
      ∙ sym (b.2).2

  -- ---- the order of mutexes

  one_locks : (order points : List ℕ) (p q : Printed) → PrintsLocks script deal order points limit p
      → PrintsLocks script deal order points limit q → p ≡ q
  one_locks order points p q a b =
      let same = some_same a.0 b.0 (sym a.1 ∙ b.1) in
      let found = subst (λ (ended : Run). IsChosen deal.mutexes ended.0 (a.2).0) same (a.2).1 in
      (a.2).2 ∙ ap (printed_locks script.names)
      (chosen-once deal.mutexes (b.0).0 (a.2).0 (b.2).0 found (b.2).1) ∙ sym (b.2).2

  -- ---- what is found

  one_found : (order points : List ℕ) (p q : Printed) → PrintsFound script deal order points limit p
      → PrintsFound script deal order points limit q → p ≡ q
  one_found order points p q a b =
      a.3 ∙ ap (printed_finding script.names order)
      (one_finding deal (bodies_of script) order limit points a.0 b.0 a.1 b.1) ∙ sym b.3

  -- ---- any report

  one_report : (report : Report) (order points : List ℕ) (p q : Printed)
      → OfReport report script deal order points limit p
      → OfReport report script deal order points limit q → p ≡ q
  one_report Trace order points p q a b = one_trace order points p q a b
  one_report Races order points p q a b = one_races order points p q a b
  one_report Locks order points p q a b = one_locks order points p q a b
  one_report Find order points p q a b = one_found order points p q a b

  pub report_answers : (report : Report) (order points : List ℕ) (p : Printed)
      → OfReport report script deal order points limit p → IsCarriedOut p.status
  report_answers Trace order points p a =
      answers_as p (trace_of_run script order points limit a.0) (is_passed (a.0).1) (a.2).is
  report_answers Races order points p a =
      answers_as p (race_text script.names (a.2).0) (length (a.2).0 == 0) (a.2).2
  report_answers Locks order points p a =
      answers_as p (lock_text script.names (a.2).0) (is_order (a.2).0) (a.2).2
  report_answers Find order points p a =
      answers_as p (found_text script.names order a.0) (is_pass a.0) a.3

  -- ---- by an order that is given

  pub one_ordered : (items : List (List ℕ)) (word : ℕ) (points : List ℕ) (report : Report)
      (p q : Printed) → OfOrdered items word points limit report script deal p
      → OfOrdered items word points limit report script deal q → p ≡ q
  one_ordered items word points report p q a b =
      one_of_order script.names items word (λ order. OfReport report script deal order points limit)
      (λ order. one_report report order points) p q a b

  pub ordered_answers : (items : List (List ℕ)) (word : ℕ) (points : List ℕ) (report : Report)
      (p : Printed) → OrderFits script.names (Some items)
      → OfOrdered items word points limit report script deal p → IsCarriedOut p.status
  ordered_answers items word points report p fits a =
      order_fits script.names items word (λ order. OfReport report script deal order points limit)
      (λ (q : Printed). IsCarriedOut q.status)
      (λ order. report_answers report order points) p fits a

  -- ---- by a seed

  pub one_count : (steps : Option ℕ) (k j : ℕ) → DrawsFrom script deal limit steps k
      → DrawsFrom script deal limit steps j → k ≡ j
  one_count (Some steps) k j a b = a ∙ sym b
  one_count None k j a b =
      let same = some_same a.0 b.0 (sym a.1 ∙ b.1) in
      a.2 ∙ ap (λ (r : Run). max (length r.0) 1) same ∙ sym b.2

  pub one_seed : (seed depth : ℕ) (steps : Option ℕ) (report : Report) (p q : Printed)
      → OfSeed seed depth steps limit report script deal p
      → OfSeed seed depth steps limit report script deal q → p ≡ q
  one_seed seed depth steps report p q a b =
      let same = one_count steps a.0 b.0 a.1 b.1 in
      let moved = subst (λ k. OfDrawn seed depth k limit report script deal p) same a.2 in
      one_report report _ _ p q moved b.2

  pub seed_answers : (seed depth : ℕ) (steps : Option ℕ) (report : Report) (p : Printed)
      → OfSeed seed depth steps limit report script deal p → IsCarriedOut p.status
  seed_answers seed depth steps report p a = report_answers report _ _ p a.2
