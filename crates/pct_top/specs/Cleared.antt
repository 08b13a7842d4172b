-- What a sweep says of a script, in the program's words: whether every choice of an order and
-- change
-- points passes, how many choices lead to each verdict, and how a certificate agrees (this
-- project).
use Rattle.std.specs.Prelude.{◌≡◌, ◌≢◌, ◌↔◌, ℕ, ◌+◌, ◌-◌, ◌<◌, ◌≤◌, Bool, List, length, Option}
use Rattle.std.specs.Prelude.{Some}
use Rattle.std.specs.Prelude.{Ok, Contains, take}
use Rattle.pct_ask.specs.declared.Deal.{Deal}
use Rattle.pct_ask.specs.declared.event.Event.{Event}
use Rattle.pct_ask.specs.declared.verdict.Verdict.{Verdict}
use Rattle.pct_ask.specs.declared.verdict.Verdict.TheVariants.{Passed}
use Rattle.script_tree.specs.ScriptText.{ScriptText}
use Rattle.script_tree.specs.DealOf.{IsDealOf}
use Rattle.script_tree.specs.Grammar.{Spells}
use Rattle.script_body.specs.Bodies.{bodies_of}
use Rattle.worker_run.specs.declared.serving.Serve.{Serve}
use Rattle.worker_run.specs.Run.{run}
use Rattle.choices.specs.Orders.{factorial}
use Rattle.rank_now.specs.Order.{IsOrderOf}
use Rattle.choices.specs.Laws.{ArePoints}
use Rattle.directive.specs.DirectiveText.{DirectiveText}
use Rattle.directive.specs.Directive.{IsDirective}
use Rattle.failure_rank.specs.declared.group.Group.{Group}
use Rattle.report_text.specs.declared.swept.SweptGroup.{SweptGroup}
use Rattle.sweep.specs.Choices.{choice_count, most_choices}
use Rattle.sweep.specs.Swept.{IsCounted as CountsChoices}
use Rattle.sweep.specs.declared.sweeping.Swept.{Swept}
use Rattle.pct_top.specs.declared.settings.Settings.TheVariants.{Sweep}
use Rattle.pct_top.specs.declared.status.Status.TheVariants.{Done, Found}
use Rattle.pct_top.specs.Settings.{settings}
use Rattle.pct_top.specs.Printed.{NamedFiles, Printed, script_bytes, directive_bytes}
use Rattle.pct_top.specs.Runs.{DrawsFrom}
use Rattle.pct_top.specs.Output.{Output}
use Rattle.pct_top.specs.Call.{IsCarriedOut}
use Rattle.pct_top.specs.Counted.{CertifiesFile}
use Rattle.pct_top.specs.commands.Campaign.{frame_of}
use Rattle.pct_top.specs.commands.Sweep.{swept_setup, AreGroupsTold, sweep_report, too_many_text}

-- For every order of the threads, and for every so many points in 1..k, the run passes.
abbrev pub EveryRunPasses : ScriptText → Deal → ℕ → ℕ → ℕ → Type 0
EveryRunPasses script deal k many limit =
    (order points : List ℕ) → IsOrderOf (length script.names.threads) order
    → ArePoints k many points
    → (made : List Event)
    × (run deal (bodies_of script) order points limit ≡ Some (made, Passed))

-- The report tells of all choices, each verdict with its number.
pub record TellsChoices (script : ScriptText) (deal : Deal) (depth k limit : ℕ) (json : Bool)
    (swept : Swept) (out : List ℕ) : Type 0 where
  pub counted : CountsChoices (swept_setup script deal depth k limit) swept
  pub told : List SweptGroup
  pub are : AreGroupsTold (frame_of deal depth k limit) swept.groups told
  pub text : out ≡ sweep_report json script (frame_of deal depth k limit) swept told

-- The file has a script, with what its threads share, and points are drawn from k steps. Where the
-- choices aren't too many, they are told, and it is done exactly where every run passes. Where they
-- are too many, a line says so, and something is found.
pub record IsSweepTold (files : NamedFiles) (file : List ℕ) (depth : ℕ) (steps : Option ℕ)
    (limit : ℕ)
    (json : Bool) (printed : Printed) : Type 0 where
  pub script : ScriptText
  pub deal : Deal
  pub k : ℕ
  pub spelled : Spells (take script_bytes (files file)) script
  pub deals : IsDealOf script deal
  pub drawn : DrawsFrom script deal limit steps k
  pub told : choice_count (length script.names.threads) k (depth - 1) ≤ most_choices
      → (swept : Swept) × TellsChoices script deal depth k limit json swept printed.out
  pub cleared : choice_count (length script.names.threads) k (depth - 1) ≤ most_choices
      → (printed.status ≡ Done) ↔ EveryRunPasses script deal k (depth - 1) limit
  pub too_many : most_choices < choice_count (length script.names.threads) k (depth - 1)
      → (printed.status ≡ Found) × (printed.out ≡ too_many_text (length script.names.threads))

-- For all words and files: this is told of a sweep that is carried out.
abbrev pub SweptAreCleared : Type 0
SweptAreCleared =
    (words : List (List ℕ)) (files : NamedFiles) (printed : Printed) (file : List ℕ) (depth : ℕ)
    (steps : Option ℕ) (limit : ℕ) (json : Bool) (serve : Serve)
    → settings words ≡ Ok (Sweep file depth steps limit json serve) → Output words files printed
    → IsCarriedOut printed.status → IsSweepTold files file depth steps limit json printed

-- ---- a certificate beside a sweep

-- at least so many choices lead to the verdict: they are told as a group, or as those that passed
pub record TellsAtLeast (swept : Swept) (verdict : Verdict) (many : ℕ) : Type 0 where
  pub passing : verdict ≡ Passed → many ≤ swept.passed
  pub failing : verdict ≢ Passed
      → (group : Group) × Contains swept.groups group × (group.verdict ≡ verdict)
      × (many ≤ group.count)

-- The files have a script and a directive under its names. Where the directive has as many moments
-- as a choice has points, and the choices aren't too many, the sweep tells at least (n-1)! choices
-- of its verdict: as many as there are orders in its certificate.
pub record AgreesWith (files : NamedFiles) (file directive : List ℕ) (depth k limit : ℕ)
    (json : Bool)
    (out : List ℕ) : Type 0 where
  pub script : ScriptText
  pub deal : Deal
  pub plan : DirectiveText
  pub spelled : Spells (take script_bytes (files file)) script
  pub deals : IsDealOf script deal
  pub planned : IsDirective (take directive_bytes (files directive)) script.names plan
  pub agrees : depth ≡ length plan.events + 1
      → choice_count (length script.names.threads) k (depth - 1) ≤ most_choices
      → (swept : Swept) × TellsChoices script deal depth k limit json swept out
      × TellsAtLeast swept plan.verdict (factorial (length script.names.threads - 1))

-- For all words and files: a sweep agrees so with a certificate that is done for the same script,
-- number of steps and limit.
abbrev pub CertifiedAreSwept : Type 0
CertifiedAreSwept =
    (words more : List (List ℕ)) (files : NamedFiles) (printed other : Printed)
    (file directive : List ℕ) (depth k limit : ℕ) (json : Bool) (serve : Serve)
    → CertifiesFile (settings words) file directive k limit → Output words files printed
    → printed.status ≡ Done
    → settings more ≡ Ok (Sweep file depth (Some k) limit json serve) → Output more files other
    → AgreesWith files file directive depth k limit json other.out
