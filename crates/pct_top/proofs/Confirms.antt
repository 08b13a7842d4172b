-- What a run prints whole is confirmed by its replay.
use Rattle.std.proofs.Common.{◌≡◌, ◌⊎◌, ℕ, ◌<◌, inl, inr, List, length, Ok, Some, refl, sym, subst}
use Rattle.std.proofs.Common.{ap, take, ◌∙◌, arith}
use Rattle.std.specs.Prelude.{All, Bool, true, codes, ◌∷◌}
use Rattle.std.proofs.lemmas.List.{take_all, append-nil}
use Rattle.std.proofs.lemmas.List.Elements.{All-map}
use Rattle.pct_ask.specs.VerdictText.{named_verdict, verdict_words}
use Rattle.pct_ask.specs.TraceText.{line_text}
use Rattle.pct_ask.specs.declared.Deal.{Deal}
use Rattle.pct_ask.specs.declared.event.Event.{Event}
use Rattle.pct_ask.specs.declared.verdict.Outcome.TheVariants.{Verdict as Ends}
use Rattle.pct_ask.specs.declared.verdict.Verdict.{Verdict}
use Rattle.script_tree.specs.ScriptText.{ScriptText}
use Rattle.script_tree.specs.DealOf.{IsDealOf}
use Rattle.script_tree.specs.Grammar.{Spells}
use Rattle.trace_text.specs.declared.file.TraceFile.{TraceFile}
use Rattle.trace_text.specs.Trace.{IsTrace}
use Rattle.policy_pick.specs.Plan.{ByPoints}
use Rattle.script_body.specs.Bodies.{bodies_of}
use Rattle.worker_run.specs.Run.{Run}
use Rattle.worker_run.proofs.laws.WholeRuns.{run-played}
use Rattle.replay_run.specs.declared.answer.Replayed.TheVariants.{Confirmed}
use Rattle.replay_run.specs.Replay.{IsReplay}
use Rattle.replay_run.proofs.laws.ListedRuns.{listed_again}
use Rattle.pct_top.specs.declared.refusal.Refusal.TheVariants.{Usage, Script}
use Rattle.pct_top.specs.declared.refusal.Refusal.TheVariants.{Directive as BadDirective}
use Rattle.pct_top.specs.declared.settings.Report.TheVariants.{Trace}
use Rattle.pct_top.specs.declared.settings.Settings.TheVariants.{RunOrder, RunSeed, Expose}
use Rattle.pct_top.specs.Settings.{SettingsOrWord, settings}
use Rattle.pct_top.specs.Printed.{NamedFiles, Printed, printed_text, script_bytes, trace_bytes}
use Rattle.pct_top.specs.Runs.{run_of, is_passed, file_of_run, trace_of_run, TellsRun}
use Rattle.pct_top.specs.commands.Run.{PrintsTrace}
use Rattle.pct_top.specs.commands.Replay.{printed_reply}
use Rattle.pct_top.specs.commands.Expose.{TellsExposed}
use Rattle.pct_ask.specs.SameVerdict.{same_verdict}
use Rattle.directive_run.specs.declared.answers.Exposed.{Exposed}
use Rattle.directive_run.specs.declared.answers.Exposed.TheVariants.{Points, TooLong}
use Rattle.pct_top.specs.Output.{OfTaken}
use Rattle.pct_top.specs.Call.{IsCarriedOut}
use Rattle.pct_top.specs.Confirmed.{RunsFile, printed_confirmation, IsConfirmedTrace}
use Rattle.pct_top.specs.Confirmed.{RunsAreConfirmed}
use Rattle.pct_top.specs.Confirmed.{ExposesFile, TellsLong, ExposedAreConfirmed}
use Rattle.pct_top.proofs.Refusals.{not_refused}

-- what the law says of one output
abbrev IsSo : NamedFiles → List ℕ → Printed → Type 0
IsSo files file printed = IsConfirmedTrace files file printed.out

module _ (script : ScriptText) (deal : Deal) (of : IsDealOf script deal) (order points : List ℕ)
    (limit : ℕ) (printed : Printed) (ended : Run) (done : Bool)
    (runs : run_of script deal order points limit ≡ Some ended)
    (tells : TellsRun script order points limit ended done printed) where
  abbrev file : TraceFile
  file = file_of_run script order points limit ended

  abbrev whole : IsTrace (trace_of_run script order points limit ended) script.names file
  whole = tells.whole

  -- the trace's list of threads runs as the trace tells
  replayed : IsReplay deal (bodies_of script) file (Confirmed file.verdict)
  replayed =
      let run = whole.run in
      let known : All (λ (e : Event). e.thread < deal.threads) file.events =
      λ k d within. omega (arith, ((run.steps) k d within).thread, of.threads) in
      let threads : deal.threads ≡ length order = of.threads ∙ sym (run.head).whole in
      let listed = All-map (λ t. t < deal.threads) (λ (e : Event). e.thread) file.events known in
      let made = run-played deal (bodies_of script) order points limit ended.0 ended.1 threads
      runs in
      record {
        made = ended.0;
        outcome = Ends ended.1;
        played =
            listed_again (ByPoints order points) deal (bodies_of script) limit ended.0 ended.1
            threads (λ departs. departs) (deal.few_threads, listed) made;
        tells = (refl, refl, refl);
      }

  out_is : printed.out ≡ trace_of_run script order points limit ended
  out_is = ap (λ (p : Printed). p.out) tells.is

  one_line : printed_confirmation script.names ended.1 ≡ printed_reply script (Confirmed ended.1)
  one_line =
      ap (λ (text : List ℕ). printed_text text true)
      (sym (append-nil (line_text (codes "confirmed"
      ∷ verdict_words (named_verdict script.names ended.1)))))

  confirms : (files : NamedFiles) (name : List ℕ) → Spells (take script_bytes (files name)) script
      → IsSo files name printed
  confirms files name spells = (
    script,
    ended.1,
    spells,
    (file, subst (λ text. IsTrace text script.names file) (sym out_is) whole, refl),
    λ later trace same written.
        let text : take trace_bytes (later trace) ≡ trace_of_run script order points limit ended =
        ap (take trace_bytes) (written ∙ out_is)
        ∙ take_all trace_bytes (trace_of_run script order points limit ended)
        (omega (arith, whole.small)) in
        inl (
          script,
          subst (λ bytes. Spells (take script_bytes bytes) script) (sym same) spells,
          (
            deal,
            of,
            inl (
              file,
              subst (λ bytes. IsTrace bytes script.names file) (sym text) whole,
              (Confirmed ended.1, replayed, one_line),
            ),
          ),
        ),
  )

traced_so : (script : ScriptText) (deal : Deal) → IsDealOf script deal → (order points : List ℕ)
    (limit : ℕ) (printed : Printed) → PrintsTrace script deal order points limit printed
    → (files : NamedFiles) (name : List ℕ) → Spells (take script_bytes (files name)) script
    → IsSo files name printed
traced_so script deal of order points limit printed prints =
    confirms script deal of order points limit printed prints.0 (is_passed (prints.0).1) prints.1
    prints.2

by_taken : (taken : SettingsOrWord) (files : NamedFiles) (printed : Printed) (name : List ℕ)
    → RunsFile taken name
    → OfTaken taken files printed → IsCarriedOut printed.status → IsSo files name printed
by_taken (Ok (RunOrder file order word points limit Trace)) files printed name same (inl of)
    answers = elim of.2.2 [
      | inl given ↦ subst (λ n. IsSo files n printed) (sym same)
          (traced_so of.0 of.2.0 of.2.1 given.0 points limit printed given.2 files file of.1)
      | inr none ↦ absurd (not_refused IsCarriedOut (Usage word) printed none.1 (λ h. h) answers)
    ]
by_taken (Ok (RunOrder file order word points limit Trace)) files printed name same (inr bad)
    answers = absurd (not_refused IsCarriedOut (Script bad.0 bad.1) printed bad.3 (λ h. h) answers)
by_taken (Ok (RunSeed file seed depth steps limit Trace)) files printed name same (inl of) answers =
    subst (λ n. IsSo files n printed) (sym same)
    (traced_so of.0 of.2.0 of.2.1 _ _ limit printed of.2.2.2 files file of.1)
by_taken (Ok (RunSeed file seed depth steps limit Trace)) files printed name same (inr bad)
    answers = absurd (not_refused IsCarriedOut (Script bad.0 bad.1) printed bad.3 (λ h. h) answers)
by_taken taken files printed name same of answers = absurd same

pub runs_confirmed : RunsAreConfirmed
runs_confirmed words files printed name same of answers =
    by_taken (settings words) files printed name same of answers

-- ---- what a directive exposes

exposed_so : (script : ScriptText) (deal : Deal) → IsDealOf script deal → (order : List ℕ)
    (limit : ℕ) (verdict : Verdict) (exposed : Exposed) (printed : Printed)
    → TellsExposed script deal order limit verdict exposed printed → (files : NamedFiles)
    (name : List ℕ) → Spells (take script_bytes (files name)) script
    → TellsLong printed ⊎ IsSo files name printed
exposed_so script deal of order limit verdict (Points points played) printed tells files name
    spells =
    inr (confirms script deal of order points limit printed tells.0
    (same_verdict (tells.0).1 verdict) tells.1 tells.2 files name spells)
exposed_so script deal of order limit verdict (TooLong many) printed tells files name spells =
    inl (many, tells)

exposed_by : (taken : SettingsOrWord) (files : NamedFiles) (printed : Printed) (name : List ℕ)
    → ExposesFile taken name → OfTaken taken files printed → IsCarriedOut printed.status
    → TellsLong printed ⊎ IsSo files name printed
exposed_by (Ok (Expose file directive order word steps limit)) files printed name same (inl of)
    answers = elim of.2.2 [
      | inl given ↦ elim given.2 [
        | inl plan ↦ subst (λ n. TellsLong printed ⊎ IsSo files n printed) (sym same)
            (exposed_so of.0 of.2.0 of.2.1 given.0 limit (plan.0).verdict (plan.2).0 printed
            (plan.2).2
            files file of.1)
        | inr bad ↦ absurd
            (not_refused IsCarriedOut (BadDirective bad.0 bad.1) printed bad.3 (λ h. h)
            answers)
      ]
      | inr none ↦ absurd (not_refused IsCarriedOut (Usage word) printed none.1 (λ h. h) answers)
    ]
exposed_by (Ok (Expose file directive order word steps limit)) files printed name same (inr bad)
    answers =
    absurd (not_refused IsCarriedOut (Script bad.0 bad.1) printed bad.3 (λ h. h) answers)
exposed_by taken files printed name same of answers = absurd same

pub exposed_confirmed : ExposedAreConfirmed
exposed_confirmed words files printed file same of answers =
    exposed_by (settings words) files printed file same of answers
