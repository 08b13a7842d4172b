-- What `find` prints is a directive that `expose` takes, and whose verdict it finds again (this
-- project).
use Rattle.std.specs.Prelude.{◌≡◌, ℕ, ◌≤◌, List, length, map, Some, Ok, take}
use Rattle.pct_ask.specs.VerdictText.{thread_name}
use Rattle.pct_ask.specs.declared.Deal.{Deal}
use Rattle.pct_ask.specs.declared.event.Event.{Event}
use Rattle.priority_draw.specs.Drawing.{draw_of_seed}
use Rattle.script_tree.specs.ScriptText.{ScriptText}
use Rattle.script_tree.specs.DealOf.{IsDealOf}
use Rattle.script_tree.specs.Grammar.{Spells}
use Rattle.script_body.specs.Bodies.{bodies_of}
use Rattle.worker_run.specs.Run.{directed_run}
use Rattle.directive.specs.DirectiveText.{DirectiveText}
use Rattle.directive.specs.Directive.{IsDirective}
use Rattle.pct_top.specs.declared.settings.Report.TheVariants.{Find}
use Rattle.pct_top.specs.declared.settings.Settings.TheVariants.{RunOrder, RunSeed, Expose}
use Rattle.pct_top.specs.declared.status.Status.TheVariants.{Done, Found}
use Rattle.pct_top.specs.Settings.{SettingsOrWord, settings}
use Rattle.pct_top.specs.Ordered.{NamesAll}
use Rattle.pct_top.specs.Runs.{DrawsFrom}
use Rattle.pct_top.specs.Printed.{NamedFiles, Printed, script_bytes}
use Rattle.pct_top.specs.Output.{Output}

-- the words ask for the directive of a run of the script in this file, under this limit
abbrev pub FindsIn : SettingsOrWord → List ℕ → ℕ → Type 0
FindsIn (Ok (RunOrder file order word points limit Find)) name most =
    (name ≡ file) × (most ≡ limit)
FindsIn (Ok (RunSeed file seed depth steps limit Find)) name most =
    (name ≡ file) × (most ≡ limit)
FindsIn taken name most = ⊥

-- the run's order, which the words give or a seed
abbrev pub OrdersTheRun : SettingsOrWord → ScriptText → Deal → List ℕ → Type 0
OrdersTheRun (Ok (RunOrder file items word points limit report)) script deal order =
    NamesAll script.names items order
OrdersTheRun (Ok (RunSeed file seed depth steps limit report)) script deal order =
    (k : ℕ) × DrawsFrom script deal limit steps k
    × (order ≡ (draw_of_seed seed (length script.names.threads) k depth).order)
OrdersTheRun taken script deal order = ⊥

-- the words ask to expose the directive in another file under the order of these names, for runs of
-- at most k steps, under this limit
abbrev pub ExposesIn : SettingsOrWord → List ℕ → List ℕ → List (List ℕ) → ℕ → ℕ → Type 0
ExposesIn (Ok (Expose file directive order word steps limit)) name other items k most =
    (name ≡ file) × (other ≡ directive) × (items ≡ order) × (k ≡ steps) × (most ≡ limit)
ExposesIn taken name other items k most = ⊥

-- The text is a directive of the script, which leads to its verdict under the run's order. Wherever
-- the script's name has the same bytes and another name the text, exposing it under this order and
-- limit is done, for every k from the number of the directed run's steps on.
pub record IsTakenUp (taken : SettingsOrWord) (files : NamedFiles) (file text : List ℕ)
    (limit : ℕ) :
    Type 0 where
  pub script : ScriptText
  pub deal : Deal
  pub order : List ℕ
  pub plan : DirectiveText
  pub made : List Event
  pub spelled : Spells (take script_bytes (files file)) script
  pub deals : IsDealOf script deal
  pub ordered : OrdersTheRun taken script deal order
  pub told : IsDirective text script.names plan
  pub leads :
      directed_run deal (bodies_of script) order plan.events limit ≡ Some (made, plan.verdict)
  pub takes :
      (words : List (List ℕ)) (later : NamedFiles) (other : List ℕ) (k : ℕ)
      → ExposesIn (settings words) file other (map (thread_name script.names) order) k limit
      → later file ≡ files file → later other ≡ text → length made ≤ k
      → (printed : Printed) → Output words later printed → printed.status ≡ Done

-- For all words and files: what `find` may find is taken up by `expose`.
abbrev pub FoundAreTakenUp : Type 0
FoundAreTakenUp =
    (words : List (List ℕ)) (files : NamedFiles) (printed : Printed) (file : List ℕ) (limit : ℕ)
    → FindsIn (settings words) file limit → Output words files printed
    → printed.status ≡ Found → IsTakenUp (settings words) files file printed.out limit
