-- The steps of a run name only what its deal has.
use Rattle.std.proofs.Common.{◌≡◌, ℕ, List, [], ◌∷◌, length, sym, ap, subst, ◌∙◌, arith}
use Rattle.std.specs.Prelude.{All}
use Rattle.std.proofs.lemmas.List.Elements.{All-nil, All-cons, All-head, All-tail}
use Rattle.pct_ask.specs.NameLists.{NameLists}
use Rattle.pct_ask.specs.Objects.{Sizes, sizes_of_deal, sizes_of_names, IsInRange, EventIsInRange}
use Rattle.pct_ask.specs.declared.Deal.{Deal}
use Rattle.pct_ask.specs.declared.ask.Ask.{Ask}
use Rattle.pct_ask.specs.declared.ask.Ask.TheVariants.{RdLock, WrLock, TryRdLock, TryWrLock}
use Rattle.pct_ask.specs.declared.ask.Ask.TheVariants.{RwUnlock}
use Rattle.pct_ask.specs.declared.event.Event.{Event}
use Rattle.script_tree.specs.ScriptText.{ScriptText}
use Rattle.script_tree.specs.Fitting.{IsScript}
use Rattle.script_tree.specs.DealOf.{IsDealOf}
use Rattle.trace_text.specs.Lawful.{HasObjects, NamesKnown}

-- what has a name in a trace of some version is one of those that have names
in-range : (names : NameLists) (version : ℕ) (ask : Ask) → HasObjects names version ask
    → IsInRange (sizes_of_names names) ask
in-range names version (RdLock l) h = h.0
in-range names version (WrLock l) h = h.0
in-range names version (TryRdLock l) h = h.0
in-range names version (TryWrLock l) h = h.0
in-range names version (RwUnlock l) h = h.0
in-range names version ask h = h

module _ (script : ScriptText) (deal : Deal) (sound : IsScript script)
    (of : IsDealOf script deal) where
  -- a script's deal declares as many threads and objects as have names
  pub same_sizes : sizes_of_names script.names ≡ sizes_of_deal deal
  same_sizes = λ j. record {
    threads = sym of.threads j;
    vars = sym (ap length of.vars ∙ sound.same_vars) j;
    mutexes = sym of.mutexes j;
    conds = sym of.conds j;
    sems = sym (ap length of.sems ∙ sound.same_sems) j;
    barriers = sym (ap length of.barriers ∙ sound.same_barriers) j;
    rwlocks = sym of.rwlocks j;
  }

  module _ (version : ℕ) where
    known_in_range : (event : Event) → NamesKnown script.names version event
        → EventIsInRange (sizes_of_deal deal) event
    known_in_range event known = record {
      thread = omega (arith, known.thread, of.threads);
      ask =
          subst (λ (sizes : Sizes). IsInRange sizes event.ask) same_sizes
          (in-range script.names version event.ask known.objects);
    }

    -- each step names only threads and objects of the deal
    pub all_in_range : (events : List Event) → All (NamesKnown script.names version) events
        → All (EventIsInRange (sizes_of_deal deal)) events
    all_in_range [] known = All-nil (EventIsInRange (sizes_of_deal deal))
    all_in_range (event ∷ events) known =
        All-cons (EventIsInRange (sizes_of_deal deal)) event events
        (known_in_range event (All-head (NamesKnown script.names version) event events known))
        (all_in_range events (All-tail (NamesKnown script.names version) event events known))
