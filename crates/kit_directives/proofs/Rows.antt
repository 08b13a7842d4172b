-- The rows of the first orders, one after another.
use Rattle.std.proofs.Common.{◌≡◌, ℕ, ◌+◌, List, [], ◌∷◌, ◌++◌, ◌≤◌, refl, sym}
use Rattle.std.proofs.Common.{ap, subst, ◌∙◌, inl, inr}
use Rattle.std.proofs.lemmas.List.{length-append}
use Rattle.pct_ask.specs.declared.deal.Deal.{Deal}
use Rattle.directive.specs.declared.directive.Directive.{Directive}
use Rattle.directive_run.specs.declared.answers.CertifyRow.{CertifyRow}
use Rattle.directive_run.specs.declared.answers.Certified.{Certified}
use Rattle.directive_run.specs.declared.answers.Certified.TheVariants.{Yes, Refuted, TooLong}
use Rattle.directive_run.specs.declared.answers.Certified.TheVariants.{TooManyThreads}
use Rattle.kit_runs.proofs.Laws.{at-end}
use Rattle.kit_directives.specs.Certified.{AreRowsOfOrders, IsOrderAt, IsLedAt, JudgesAt}
use Rattle.kit_directives.specs.Certified.{IsFirstOther, Certifies}
use Rattle.kit_directives.specs.declared.judging.Judged.{Judged}
use Rattle.kit_directives.specs.declared.judging.Judged.TheVariants.{Led, Other}

module _ (deal : Deal) (directive : Directive) (steps limit : ℕ) where
  pub no-rows : AreRowsOfOrders deal directive steps limit 0 []
  no-rows = record { all = refl; each = λ place row is. absurd cc }

  pub one-row : (rows : List CertifyRow) (count : ℕ) (row : CertifyRow)
      → AreRowsOfOrders deal directive steps limit count rows
      → IsLedAt deal directive steps limit count row
      → AreRowsOfOrders deal directive steps limit (count + 1) (rows ++ row ∷ [])
  one-row rows count row are is = record {
    all = length-append rows (row ∷ []) ∙ ap (λ n. n + 1) are.all;
    each = λ place other found. elim (at-end rows row other place found) [
      | inl before ↦ are.each place other before
      | inr last ↦
          subst (λ (x : ℕ × CertifyRow). IsLedAt deal directive steps limit x.0 x.1)
          (λ i. (sym (last.0 ∙ are.all) i, last.1 i)) is
    ];
  }

  -- an answer on an order is one of the last two
  pub other-answer : (certified : Certified) → IsFirstOther deal directive steps limit certified
      → Certifies deal directive steps limit certified
  other-answer (Yes bound rows) first = absurd first.says
  other-answer (Refuted order verdict) first = first
  other-answer (TooLong order many) first = first
  other-answer (TooManyThreads threads) first = absurd first.says

  -- what was said of the order at a place
  pub led-at : (place : ℕ) (judged : Judged) (row : CertifyRow) → judged ≡ Led row
      → JudgesAt deal directive steps limit place judged
      → IsLedAt deal directive steps limit place row
  led-at place judged row is at =
      subst (λ (j : Judged). JudgesAt deal directive steps limit place j) is at

  pub first-other : deal.threads ≤ 7 → (rows : List CertifyRow) (place : ℕ) (judged : Judged)
      (certified : Certified) → judged ≡ Other certified
      → AreRowsOfOrders deal directive steps limit place rows
      → JudgesAt deal directive steps limit place judged
      → IsFirstOther deal directive steps limit certified
  first-other few rows place judged certified is are judges =
      let says = subst (λ (j : Judged). JudgesAt deal directive steps limit place j) is judges in
      record {
        few = few;
        rows = rows;
        before = subst (λ (n : ℕ). AreRowsOfOrders deal directive steps limit n rows) (sym are.all)
            are;
        order = says.0;
        at = subst (λ (n : ℕ). IsOrderAt deal directive n says.0) (sym are.all) says.1;
        says = says.2;
      }
