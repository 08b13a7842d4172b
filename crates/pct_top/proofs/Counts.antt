-- Where `certify` is done, its directive is counted.
use Rattle.std.specs.List.{flat_map}
use Rattle.std.proofs.Common.{◌≡◌, ℕ, ◌*◌, ◌^◌, ◌≤◌, inl, inr, List, [], ◌∷◌, ◌++◌, length, map, Ok}
use Rattle.std.proofs.Common.{sym, ap, subst, ◌∙◌}
use Rattle.pct_ask.specs.TraceText.{line_text}
use Rattle.pct_ask.specs.declared.Deal.{Deal}
use Rattle.script_tree.specs.ScriptText.{ScriptText}
use Rattle.script_tree.specs.DealOf.{IsDealOf}
use Rattle.script_body.specs.Bodies.{bodies_of}
use Rattle.directive.specs.declared.directive.Directive.{Directive}
use Rattle.directive.specs.Answers.{plain_directive as plain}
use Rattle.choices.specs.Orders.{factorial}
use Rattle.choices.specs.Counting.{hits}
use Rattle.worker_run.specs.Run.{run}
use Rattle.directive_run.specs.Certifying.{Certifies}
use Rattle.directive_run.specs.declared.answers.Certified.{Certified}
use Rattle.directive_run.specs.declared.answers.Certified.TheVariants.{Yes, Refuted, TooLong}
use Rattle.directive_run.specs.declared.answers.Certified.TheVariants.{TooManyThreads}
use Rattle.pct_top.specs.declared.refusal.Refusal.TheVariants.{Script, Directive as BadDirective}
use Rattle.pct_top.specs.declared.settings.Settings.TheVariants.{Certify}
use Rattle.pct_top.specs.declared.status.Status.{Status}
use Rattle.pct_top.specs.declared.status.Status.TheVariants.{Done}
use Rattle.pct_top.specs.Settings.{SettingsOrWord, settings}
use Rattle.pct_top.specs.Printed.{NamedFiles, Printed}
use Rattle.pct_top.specs.Output.{OfTaken}
use Rattle.pct_top.specs.commands.Certify.{certificate_row_words, bound_words, certificate_text}
use Rattle.pct_top.specs.commands.Certify.{printed_certificate}
use Rattle.pct_top.specs.Counted.{CertifiesFile, IsOneIn, TellsBound, IsCountTold}
use Rattle.pct_top.specs.Counted.{CertifiedAreCounted}
use Rattle.pct_top.proofs.Refusals.{not_refused}

-- only a certified directive is done
counted_by : (script : ScriptText) (deal : Deal) → IsDealOf script deal → (directive : Directive)
    (steps limit : ℕ) (certified : Certified)
    → Certifies deal (bodies_of script) directive steps limit certified
    → (printed_certificate script.names certified).status ≡ Done
    → IsOneIn script deal (plain directive) steps limit
    × TellsBound script (plain directive) steps (certificate_text script.names certified)
counted_by script deal of directive steps limit (Yes bound rows) is done =
    let m = length directive.events in
    let count : ℕ → ℕ = λ n. hits (λ order points. run deal (bodies_of script) order points limit)
    n steps m directive.verdict in
    let N : ℕ → Type 0 = λ n. factorial n * steps ^ m ≤ count n * (n * steps ^ m) in
    let B : ℕ → Type 0 = λ b. factorial deal.threads * steps ^ m ≤ count deal.threads * b in
    let told : bound ≡ length script.names.threads * steps ^ m =
    is.bound_is ∙ ap (λ n. n * steps ^ m) of.threads in (
      subst N of.threads (subst B is.bound_is is.counted),
      (
        map (certificate_row_words script.names) rows,
        ap (λ b. flat_map line_text
            (map (certificate_row_words script.names) rows ++ bound_words b ∷ [])) told,
      ),
    )
counted_by script deal of directive steps limit (Refuted order verdict) is done = absurd cc
counted_by script deal of directive steps limit (TooLong order many) is done = absurd cc
counted_by script deal of directive steps limit (TooManyThreads threads) is done = absurd cc

-- done and nothing else
abbrev IsDone : Status → Type 0
IsDone status = status ≡ Done

by_taken : (taken : SettingsOrWord) (files : NamedFiles) (printed : Printed)
    (file directive : List ℕ)
    (k limit : ℕ) → CertifiesFile taken file directive k limit → OfTaken taken files printed
    → printed.status ≡ Done → IsCountTold files file directive k limit printed.out
by_taken (Ok (Certify name other steps most serve)) files printed file directive k limit same
    (inl of)
    done = elim of.2.2 [
      | inl plan ↦
          let script = of.0 in
          let is_done = sym (ap (λ (p : Printed). p.status) (plan.2).2) ∙ done in
          let counted = counted_by script of.2.0 of.2.1 plan.0 steps most (plan.2).0 (plan.2).1
          is_done in
          let whole : IsCountTold files name other steps most printed.out = record {
            script = script;
            deal = of.2.0;
            plan = plain plan.0;
            spelled = of.1;
            deals = of.2.1;
            told = plan.1;
            counted = counted.0;
            bound = (
              counted.1.0,
              ap (λ (p : Printed). p.out) (plan.2).2 ∙ counted.1.1,
            );
          } in
          subst (λ f. IsCountTold files f directive k limit printed.out) (sym same.0)
          (subst (λ d. IsCountTold files name d k limit printed.out) (sym same.1)
          (subst (λ s. IsCountTold files name other s limit printed.out) (sym same.2)
          (subst (λ l. IsCountTold files name other steps l printed.out) (sym same.3) whole)))
      | inr bad ↦ absurd (not_refused IsDone (BadDirective bad.0 bad.1) printed bad.3 (λ e. cc)
          done)
    ]
by_taken (Ok (Certify name other steps most serve)) files printed file directive k limit same
    (inr bad)
    done =
    absurd (not_refused IsDone (Script bad.0 bad.1) printed bad.3 (λ e. cc) done)
by_taken taken files printed file directive k limit same of done = absurd same

pub certified_counted : CertifiedAreCounted
certified_counted words files printed file directive k limit same of done =
    by_taken (settings words) files printed file directive k limit same of done
