-- What `find` finds is taken up by `expose`.
use Rattle.std.proofs.Common.{◌≡◌, ℕ, suc, ◌≤◌, ◌<◌, inl, inr, List, [], ◌∷◌, length, map, Some, Ok}
use Rattle.std.proofs.Common.{Bool, true, take, refl, sym, ap, subst, ◌∙◌, arith}
use Rattle.std.specs.Prelude.{slice_index}
use Rattle.std.specs.Option.{option_map, option_and_then}
use Rattle.std.proofs.lemmas.List.{take_all}
use Rattle.pct_ask.specs.NameLists.{NameLists, AreNames}
use Rattle.pct_ask.specs.VerdictText.{thread_name}
use Rattle.pct_ask.specs.declared.Deal.{Deal}
use Rattle.pct_ask.specs.declared.event.Event.{Event}
use Rattle.pct_ask.proofs.laws.Names.{place_of-thread}
use Rattle.pct_ask.proofs.laws.SameVerdicts.{verdict-Decides}
use Rattle.rank_now.specs.Order.{IsOrder}
use Rattle.priority_draw.specs.Drawing.{draw_of_seed, drawn_places}
use Rattle.priority_draw.proofs.laws.Orders.{order-of-is}
use Rattle.priority_draw.proofs.laws.Draws.{drawn-are}
use Rattle.script_tree.specs.ScriptText.{ScriptText}
use Rattle.script_tree.specs.DealOf.{IsDealOf}
use Rattle.script_tree.specs.Grammar.{Spells}
use Rattle.script_body.specs.Bodies.{bodies_of}
use Rattle.worker_run.specs.Run.{Run, directed_run}
use Rattle.directive.specs.declared.directive.Directive.{Directive}
use Rattle.directive.specs.DirectiveText.{DirectiveText}
use Rattle.directive.specs.Directive.{IsDirective}
use Rattle.directive.specs.Answers.{plain_directive as plain}
use Rattle.directive_find.specs.Found.{Finds}
use Rattle.directive_find.specs.declared.finding.FoundOut.{FoundOut}
use Rattle.directive_find.specs.declared.finding.FoundOut.TheVariants.{Events, Passes}
use Rattle.pct_ask.specs.SameVerdict.{same_verdict}
use Rattle.directive_run.specs.Exposing.{Exposes}
use Rattle.directive_run.specs.declared.answers.Exposed.{Exposed}
use Rattle.directive_run.specs.declared.answers.Exposed.TheVariants.{Points, TooLong}
use Rattle.pct_top.specs.declared.refusal.Refusal.TheVariants.{Usage, Script}
use Rattle.pct_top.specs.declared.settings.Report.TheVariants.{Find}
use Rattle.pct_top.specs.declared.settings.Settings.TheVariants.{RunOrder, RunSeed, Expose}
use Rattle.pct_top.specs.declared.status.Status.{Status}
use Rattle.pct_top.specs.declared.status.Status.TheVariants.{Done, Found}
use Rattle.pct_top.specs.Settings.{SettingsOrWord, settings}
use Rattle.pct_top.specs.Ordered.{threads_named, NamesAll}
use Rattle.pct_top.specs.Runs.{printed_trace}
use Rattle.pct_top.specs.Printed.{NamedFiles, Printed, script_bytes, directive_bytes, OfDirective}
use Rattle.pct_top.specs.Output.{OfTaken, OfCommand}
use Rattle.pct_top.specs.commands.Find.{plan_of, IsWellFormed, printed_finding}
use Rattle.pct_top.specs.commands.Expose.{TellsExposed, PrintsExposed, OfExpose}
use Rattle.pct_top.specs.TakenUp.{FindsIn, OrdersTheRun, ExposesIn, IsTakenUp, FoundAreTakenUp}
use Rattle.pct_top.proofs.Work.{some_same, named_order, named_directive, named_script}
use Rattle.pct_top.proofs.Refusals.{not_refused}

-- ---- an order by its names

names-back : (names : NameLists) (order : List ℕ) → AreNames names
    → ((k : ℕ) → k < length order → slice_index order k < length names.threads)
    → threads_named names (map (thread_name names) order) ≡ Some order
names-back names [] are below = refl
names-back names (t ∷ ts) are below =
    let named : List (List ℕ) = map (thread_name names) ts in
    let here = place_of-thread names t are (below 0 (omega arith)) in
    let rest = names-back names ts are (λ k within. below (suc k) (omega (arith, within))) in
    ap (option_and_then (λ x. option_map (λ xs. x ∷ xs) (threads_named names named))) here
    ∙ ap (option_map (λ xs. t ∷ xs)) rest

names-all : (names : NameLists) (order : List ℕ) → AreNames names → IsOrder order
    → length order ≡ length names.threads → NamesAll names (map (thread_name names) order) order
names-all names order are once whole = record {
  named = names-back names order are (λ k within. omega (arith, once.below k within, whole));
  whole = whole;
  once = once;
}

-- ---- what is exposed

module _ (script : ScriptText) (deal : Deal) (of : IsDealOf script deal) (order : List ℕ)
    (once : IsOrder order) (whole : length order ≡ length (script.names).threads) (limit : ℕ)
    (plan : DirectiveText) (made : List Event)
    (leads : directed_run deal (bodies_of script) order plan.events limit
    ≡ Some (made, plan.verdict))
    (k : ℕ) (long : length made ≤ k) where
  exposed_done : (directive : Directive) → plain directive ≡ plan → (printed : Printed)
      → (exposed : Exposed)
      → Exposes deal (bodies_of script) order directive.events k limit exposed
      → TellsExposed script deal order limit directive.verdict exposed printed
      → printed.status ≡ Done
  exposed_done directive same printed (Points points played) is tells =
      let D : DirectiveText → Type 0 = λ d.
      directed_run deal (bodies_of script) order d.events limit ≡ Some (made, d.verdict) in
      let led : D (plain directive) = subst D (sym same) leads in
      let first : Run = (played.events, is.verdict) in
      let second : Run = (made, directive.verdict) in
      let ends : tells.0 ≡ first = some_same tells.0 first (sym tells.1 ∙ is.is_run) in
      let both : first ≡ second = some_same first second (sym is.is_directed ∙ led) in
      let verdict : (tells.0).1 ≡ directive.verdict = ap (λ (r : Run). r.1) (ends ∙ both) in
      let found : same_verdict (tells.0).1 directive.verdict ≡ true =
      (verdict-Decides (tells.0).1 directive.verdict).1 verdict in
      let status : Bool → Status =
      λ b. (printed_trace script order points limit tells.0 b).status in
      ap (λ (p : Printed). p.status) (tells.2).is ∙ ap status found
  exposed_done directive same printed (TooLong many) is tells =
      let D : DirectiveText → Type 0 = λ d.
      directed_run deal (bodies_of script) order d.events limit ≡ Some (made, d.verdict) in
      let led : D (plain directive) = subst D (sym same) leads in
      let first : Run = (is.made, is.verdict) in
      let second : Run = (made, directive.verdict) in
      let both : first ≡ second = some_same first second (sym is.is_directed ∙ led) in
      absurd (omega (arith, long, is.number, is.long, ap (λ (r : Run). length r.0) both))

  of_expose : AreNames script.names → (bytes : List ℕ) → IsDirective bytes script.names plan
      → (word : ℕ) (printed : Printed)
      → OfExpose bytes (map (thread_name script.names) order) word k limit script deal printed
      → printed.status ≡ Done
  of_expose are bytes told word printed prints =
      let names = script.names in
      let Prints : Directive → Printed → Type 0 = PrintsExposed script deal order k limit in
      let ordered = named_order names (map (thread_name names) order) word
      (λ o. OfDirective bytes names (PrintsExposed script deal o k limit)) order
      (names-all names order are once whole) printed prints in
      let by = named_directive bytes names are Prints plan told printed ordered in
      exposed_done by.0 by.1 printed (by.2).0 (by.2).1 (by.2).2

  -- the words ask for it, over files that have the script and the directive
  later_done : (files : NamedFiles) (file text : List ℕ)
      → Spells (take script_bytes (files file)) script
      → IsDirective text script.names plan
      → (taken : SettingsOrWord) (later : NamedFiles) (other : List ℕ)
      → ExposesIn taken file other (map (thread_name script.names) order) k limit
      → later file ≡ files file → later other ≡ text → (printed : Printed)
      → OfTaken taken later printed → printed.status ≡ Done
  later_done files file text spells told (Ok (Expose name directive items word steps most)) later
      other asks here there printed prints =
      let names = script.names in
      let bytes : take directive_bytes (later directive) ≡ text =
      ap (λ n. take directive_bytes (later n)) (sym asks.1)
      ∙ ap (take directive_bytes) there
      ∙ take_all directive_bytes text (omega (arith, told.small)) in
      let read : Spells (take script_bytes (later name)) script =
      subst (λ n. Spells (take script_bytes (later n)) script) asks.0
      (subst (λ b. Spells (take script_bytes b) script) (sym here) spells) in
      let shown = named_script (take script_bytes (later name))
      (OfCommand (Expose name directive items word steps most) later) script deal read of printed
      prints in
      let mine = map (thread_name names) order in
      let I : List (List ℕ) → Type 0 = λ i.
      OfExpose (take directive_bytes (later directive)) i word steps most script deal printed in
      let K : ℕ → Type 0 = λ s.
      OfExpose (take directive_bytes (later directive)) mine word s most script deal printed in
      let L : ℕ → Type 0 = λ l.
      OfExpose (take directive_bytes (later directive)) mine word k l script deal printed in
      let B : List ℕ → Type 0 = λ b. OfExpose b mine word k limit script deal printed in
      of_expose spells.names text told word printed
      (subst B bytes (subst L (sym asks.4) (subst K (sym asks.3) (subst I (sym asks.2) shown))))
  later_done files file text spells told taken later other asks here there printed prints =
      absurd asks

-- ---- what is found

module _ (taken : SettingsOrWord) (files : NamedFiles) (file : List ℕ) (limit : ℕ)
    (script : ScriptText)
    (deal : Deal) (of : IsDealOf script deal)
    (spells : Spells (take script_bytes (files file)) script)
    (order : List ℕ) (once : IsOrder order)
    (whole : length order ≡ length (script.names).threads)
    (ordered : OrdersTheRun taken script deal order) (points : List ℕ) (printed : Printed)
    (status : printed.status ≡ Found) where
  found_up : (found : FoundOut) → Finds deal (bodies_of script) order points limit found
      → IsWellFormed script.names order found → printed ≡ printed_finding script.names order found
      → IsTakenUp taken files file printed.out limit
  found_up (Events events verdict steps) finds form is =
      let plan = plan_of order events verdict in
      let leads = finds.leads in
      let told : IsDirective printed.out script.names plan =
      subst (λ t. IsDirective t script.names plan) (sym (ap (λ (p : Printed). p.out) is)) form in
      record {
        script = script;
        deal = deal;
        order = order;
        plan = plan;
        made = leads.made;
        spelled = spells;
        deals = of;
        ordered = ordered;
        told = told;
        leads = leads.is_directed;
        takes = λ words later other k asks here there long.
            later_done script deal of order once whole limit plan leads.made leads.is_directed k
            long
            files file printed.out spells told (settings words) later other asks here there;
      }
  found_up (Passes steps) finds form is =
      let done : Done ≡ Found = sym (ap (λ (p : Printed). p.status) is) ∙ status in absurd cc

-- found and nothing else
abbrev IsFinding : Status → Type 0
IsFinding status = status ≡ Found

by_taken : (taken : SettingsOrWord) (files : NamedFiles) (printed : Printed) (file : List ℕ)
    (limit : ℕ)
    → FindsIn taken file limit → OfTaken taken files printed → printed.status ≡ Found
    → IsTakenUp taken files file printed.out limit
by_taken (Ok (RunOrder name items word points most Find)) files printed file limit same (inl of)
    status = elim of.2.2 [
      | inl given ↦
          let here : SettingsOrWord = Ok (RunOrder name items word points most Find) in
          let prints = given.2 in
          let up = found_up here files name most of.0 of.2.0 of.2.1 of.1 given.0 (given.1).once
          (given.1).whole given.1 points printed status prints.0 prints.1 prints.2 prints.3 in
          subst (λ f. IsTakenUp here files f printed.out limit) (sym same.0)
          (subst (λ l. IsTakenUp here files name printed.out l) (sym same.1) up)
      | inr none ↦ absurd (not_refused IsFinding (Usage word) printed none.1 (λ e. cc) status)
    ]
by_taken (Ok (RunOrder name items word points most Find)) files printed file limit same (inr bad)
    status =
    absurd (not_refused IsFinding (Script bad.0 bad.1) printed bad.3 (λ e. cc) status)
by_taken (Ok (RunSeed name seed depth steps most Find)) files printed file limit same (inl of)
    status =
    let here : SettingsOrWord = Ok (RunSeed name seed depth steps most Find) in
    let script = of.0 in
    let n = length (script.names).threads in
    let k = of.2.2.0 in
    let own = draw_of_seed seed n k depth in
    let is = order-of-is n (drawn_places seed 0 n) (drawn-are seed 0 n) in
    let prints = of.2.2.2 in
    let up = found_up here files name most script of.2.0 of.2.1 of.1 own.order
    is.is_order is.whole (k, of.2.2.1, refl) own.points printed status prints.0 prints.1 prints.2
    prints.3 in
    subst (λ f. IsTakenUp here files f printed.out limit) (sym same.0)
    (subst (λ l. IsTakenUp here files name printed.out l) (sym same.1) up)
by_taken (Ok (RunSeed name seed depth steps most Find)) files printed file limit same (inr bad)
    status =
    absurd (not_refused IsFinding (Script bad.0 bad.1) printed bad.3 (λ e. cc) status)
by_taken taken files printed file limit same of status = absurd same

pub found_taken : FoundAreTakenUp
found_taken words files printed file limit same of status =
    by_taken (settings words) files printed file limit same of status
