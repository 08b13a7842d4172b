-- What a sweep that is carried out says of its script.
use Rattle.std.specs.Prelude.{◌==◌, ◌-◌}
use Rattle.std.proofs.Common.{◌≡◌, ℕ, zero, suc, ◌+◌, ◌*◌, ◌^◌, ◌<◌, ◌≤◌, Bool, true, false}
use Rattle.std.proofs.Common.{inl, inr}
use Rattle.std.proofs.Common.{List, length, take, Option, Some, Ok, refl, sym, ap, subst, ◌∙◌}
use Rattle.std.proofs.Common.{arith}
use Rattle.std.proofs.Math.Nat.{mul-le-mul_left}
use Rattle.std.proofs.lemmas.Bool.{cases_lt}
use Rattle.std.proofs.lemmas.Bool.Decides.{nat_tests}
use Rattle.std.proofs.lemmas.Result.{IfOk-at_ok}
use Rattle.pct_ask.specs.declared.Deal.{Deal}
use Rattle.pct_ask.specs.declared.verdict.Verdict.{Verdict}
use Rattle.script_tree.specs.ScriptText.{ScriptText}
use Rattle.script_tree.specs.DealOf.{IsDealOf}
use Rattle.script_tree.specs.Grammar.{Spells}
use Rattle.script_body.specs.Bodies.{bodies_of}
use Rattle.worker_run.specs.declared.serving.Serve.{Serve}
use Rattle.worker_run.specs.Run.{run}
use Rattle.choices.specs.Orders.{factorial}
use Rattle.choices.specs.Counting.{hits}
use Rattle.rank_now.specs.Order.{IsOrderOf}
use Rattle.directive.specs.DirectiveText.{DirectiveText}
use Rattle.sweep.specs.Choices.{choice_count, most_choices}
use Rattle.sweep.specs.Rows.{SweepSetup}
use Rattle.sweep.specs.Swept.{Sweeps, IsFailure, AllPass, hits_of, IsCounted as CountsChoices}
use Rattle.sweep.specs.declared.sweeping.Swept.{Swept}
use Rattle.sweep.specs.declared.sweeping.Answer.{Answer}
use Rattle.sweep.specs.declared.sweeping.Answer.TheVariants.{Whole, TooMany}
use Rattle.sweep.proofs.Laws.{sweeps_counted, some-power, some-orders}
use Rattle.pct_top.specs.declared.refusal.Refusal.TheVariants.{Script}
use Rattle.pct_top.specs.declared.settings.Settings.TheVariants.{Sweep}
use Rattle.pct_top.specs.declared.status.Status.TheVariants.{Done}
use Rattle.pct_top.specs.Settings.{SettingsOrWord, AreLawful}
use Rattle.pct_top.specs.Printed.{NamedFiles, Printed, printed_text, script_bytes}
use Rattle.pct_top.specs.Runs.{DrawsFrom}
use Rattle.pct_top.specs.Output.{OfTaken}
use Rattle.pct_top.specs.Call.{IsCarriedOut}
use Rattle.pct_top.specs.Counted.{IsOneIn}
use Rattle.pct_top.specs.commands.Campaign.{frame_of}
use Rattle.pct_top.specs.commands.Sweep.{swept_setup, sweep_report, too_many_text, PrintsAnswer}
use Rattle.pct_top.specs.commands.Sweep.{OfChoices, OfSweep}
use Rattle.pct_top.specs.Cleared.{EveryRunPasses, TellsChoices, IsSweepTold, SweptAreCleared}
use Rattle.pct_top.specs.Cleared.{TellsAtLeast, CertifiedAreSwept}
use Rattle.pct_top.proofs.Counts.{certified_counted}
use Rattle.pct_top.proofs.OptionRanges.{words_lawful}
use Rattle.pct_top.proofs.Refusals.{not_refused}
use Rattle.pct_top.proofs.Work.{named_script}

-- ---- the status

done_clear : (n : ℕ) (text : List ℕ) → (printed_text text (n == 0)).status ≡ Done → n ≡ 0
done_clear n text = by (n == 0) refl
  where
    by : (b : Bool) → (n == 0) ≡ b → (printed_text text b).status ≡ Done → n ≡ 0
    by true is done = grind (arith, nat_tests)
    by false is done = absurd cc

clear_done : (n : ℕ) (text : List ℕ) → n ≡ 0 → (printed_text text (n == 0)).status ≡ Done
clear_done n text none = ap (λ (m : ℕ). (printed_text text (m == 0)).status) none

module _ (script : ScriptText) (deal : Deal) (of : IsDealOf script deal) (depth k limit : ℕ) where
  abbrev setup : SweepSetup
  setup = swept_setup script deal depth k limit

  abbrev count : ℕ → ℕ
  count threads = choice_count threads k (depth - 1)

  every_passes : AllPass setup → EveryRunPasses script deal k (depth - 1) limit
  every_passes all order points ordered pointed =
      let ran = all order points
      (subst (λ n. IsOrderOf n order) (sym of.threads) ordered) pointed in
      ((ran.1).made, (ran.1).is_run)

  all_pass : EveryRunPasses script deal k (depth - 1) limit → AllPass setup
  all_pass all order points ordered pointed =
      let ran = all order points (subst (λ n. IsOrderOf n order) of.threads ordered) pointed in
      (length ran.0, record { made = ran.0; is_run = ran.1; number = refl })

-- ---- a sweep

module _ (files : NamedFiles) (file : List ℕ) (depth : ℕ) (steps : Option ℕ) (limit : ℕ)
    (json : Bool)
    (serve : Serve) (printed : Printed) where
  by_answer : (script : ScriptText) (deal : Deal) (k : ℕ)
      → Spells (take script_bytes (files file)) script → IsDealOf script deal
      → DrawsFrom script deal limit steps k → (answer : Answer)
      → Sweeps (swept_setup script deal depth k limit) answer
      → PrintsAnswer json script (frame_of deal depth k limit) answer printed
      → IsSweepTold files file depth steps limit json printed
  by_answer script deal k spelled of drawn (Whole swept) sweeps prints =
      let counted = sweeps_counted (swept_setup script deal depth k limit) swept sweeps.1 in
      let report = sweep_report json script (frame_of deal depth k limit) swept prints.0 in
      let status : printed.status ≡ (printed_text report (length swept.groups == 0)).status =
      ap (λ (p : Printed). p.status) prints.2 in
      let threads = ap (count script deal of depth k limit) of.threads in
      record {
        script = script;
        deal = deal;
        k = k;
        spelled = spelled;
        deals = of;
        drawn = drawn;
        told = λ few. (
          swept,
          record {
            counted = counted;
            told = prints.0;
            are = prints.1;
            text = ap (λ (p : Printed). p.out) prints.2;
          },
        );
        cleared = λ few. (
          (λ done. every_passes script deal of depth k limit ((counted.none).0
              (done_clear (length swept.groups) report (sym status ∙ done)))),
          (λ all. status ∙ clear_done (length swept.groups) report ((counted.none).1
              (all_pass script deal of depth k limit all))),
        );
        too_many = λ more. absurd (omega (arith, more, sweeps.0, threads));
      }
  by_answer script deal k spelled of drawn TooMany more prints =
      let threads = ap (count script deal of depth k limit) of.threads in
      record {
        script = script;
        deal = deal;
        k = k;
        spelled = spelled;
        deals = of;
        drawn = drawn;
        told = λ few. absurd (omega (arith, few, more, threads));
        cleared = λ few. absurd (omega (arith, few, more, threads));
        too_many = λ too. (
          ap (λ (p : Printed). p.status) prints,
          ap (λ (p : Printed). p.out) prints ∙ ap too_many_text of.threads,
        );
      }

  by_taken : OfTaken (Ok (Sweep file depth steps limit json serve)) files printed
      → IsCarriedOut printed.status → IsSweepTold files file depth steps limit json printed
  by_taken (inl a) carried =
      let swept = a.2.2 in
      by_answer a.0 a.2.0 swept.0 a.1 a.2.1 swept.1 (swept.2).0 (swept.2).1 (swept.2).2
  by_taken (inr bad) carried =
      absurd (not_refused IsCarriedOut (Script bad.0 bad.1) printed bad.3 (λ e. e) carried)

pub swept_cleared : SweptAreCleared
swept_cleared words files printed file depth steps limit json serve taken of carried =
    by_taken files file depth steps limit json serve printed
    (subst (λ (t : SettingsOrWord). OfTaken t files printed) taken of) carried

-- ---- a certificate beside a sweep

enough : (n k m h : ℕ) → 1 ≤ n → 1 ≤ k → factorial n * k ^ m ≤ h * (n * k ^ m)
    → factorial (n - 1) ≤ h
enough zero k m h some step least = absurd (omega (arith, some))
enough (suc p) k m h some step least =
    elim (cases_lt h (factorial p)) [
      | inl less ↦
          let f = factorial p in
          let w = suc p * k ^ m in
          let positive : 0 < w =
          let lower : suc p * 1 ≤ suc p * k ^ m =
          mul-le-mul_left (suc p) (some-power k m step) in
          omega (arith, lower) in
          let above : w * (h + 1) ≤ w * f = mul-le-mul_left w (omega (arith, less)) in
          let left : factorial (suc p) * k ^ m ≡ w * f = grind arith in
          let right : h * w ≡ w * h = grind arith in
          let wide : w * (h + 1) ≡ w * h + w = grind arith in
          absurd (omega (arith, above, left, right, wide, least, positive))
      | inr fits ↦
          let P : ℕ → Type 0 = λ q. factorial q ≤ h in
          subst P (let e : p ≡ suc p - 1 = omega arith in e) fits
    ]

at_least : (setup : SweepSetup) (swept : Swept) (verdict : Verdict) (many : ℕ)
    → CountsChoices setup swept → 1 ≤ many → many ≤ hits_of setup verdict
    → TellsAtLeast swept verdict many
at_least setup swept verdict many counted some low = record {
  passing = λ passes.
      omega (arith, low, counted.passed, ap (hits_of setup) passes);
  failing = λ failed.
      let there = counted.every verdict failed (omega (arith, some, low)) in
      let group = there.0 in
      let fails = subst (IsFailure setup) (there.1).2
      (counted.each (there.1).0 group (there.1).1) in (
        group,
        there.1,
        there.2,
        omega (arith, low, fails.count, ap (hits_of setup) there.2),
      );
}

module _ (script : ScriptText) (deal : Deal) (of : IsDealOf script deal) (plan : DirectiveText)
    (depth k limit : ℕ) (json : Bool) (out : List ℕ) (step : 1 ≤ k)
    (certified : IsOneIn script deal plan k limit) where
  as_many : depth ≡ length plan.events + 1
      → factorial (length script.names.threads - 1)
      ≤ hits_of (swept_setup script deal depth k limit) plan.verdict
  as_many deep =
      let n = length script.names.threads in
      let m = length plan.events in
      let counts : ℕ → ℕ → ℕ = λ threads many.
      hits (λ order points. run deal (bodies_of script) order points limit) threads k many
      plan.verdict in
      let threads : deal.threads ≡ n = of.threads in
      let size : depth - 1 ≡ m = omega (arith, deep) in
      let low = enough n k m (counts n m) (omega (arith, deal.some_thread, threads)) step certified
      in
      omega (
        arith,
        low,
        ap (λ t. counts t (depth - 1)) threads,
        ap (λ many. counts n many) size,
      )

  agree : (printed : Printed) → printed.out ≡ out → (answer : Answer)
      → Sweeps (swept_setup script deal depth k limit) answer
      → PrintsAnswer json script (frame_of deal depth k limit) answer printed
      → depth ≡ length plan.events + 1
      → choice_count (length script.names.threads) k (depth - 1) ≤ most_choices
      → (swept : Swept) × TellsChoices script deal depth k limit json swept out
      × TellsAtLeast swept plan.verdict (factorial (length script.names.threads - 1))
  agree printed is (Whole swept) sweeps prints deep few =
      let setup = swept_setup script deal depth k limit in
      let counted = sweeps_counted setup swept sweeps.1 in (
        swept,
        record {
          counted = counted;
          told = prints.0;
          are = prints.1;
          text = sym is ∙ ap (λ (p : Printed). p.out) prints.2;
        },
        at_least setup swept plan.verdict (factorial (length script.names.threads - 1)) counted
            (some-orders (length script.names.threads - 1)) (as_many deep),
      )
  agree printed is TooMany more prints deep few =
      absurd (omega (arith, few, more, ap (λ t. choice_count t k (depth - 1)) of.threads))

pub certified_swept : CertifiedAreSwept
certified_swept words more files printed other file directive depth k limit json serve certifies of
    done
    taken sweeps =
    let c = certified_counted words files printed file directive k limit certifies of done in
    let bytes = take script_bytes (files file) in
    let lawful = IfOk-at_ok AreLawful taken (words_lawful more) in
    let step : 1 ≤ k = lawful.1.0 in
    let swept = named_script bytes (OfSweep depth (Some k) limit json) c.script c.deal c.spelled
    c.deals other (subst (λ (t : SettingsOrWord). OfTaken t files other) taken sweeps) in
    let choices = subst (λ n. OfChoices depth n limit json c.script c.deal other) swept.1 swept.2 in
    record {
      script = c.script;
      deal = c.deal;
      plan = c.plan;
      spelled = c.spelled;
      deals = c.deals;
      planned = c.told;
      agrees = agree c.script c.deal c.deals c.plan depth k limit json other.out step c.counted
          other refl choices.0 choices.1 choices.2;
    }
