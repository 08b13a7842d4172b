-- What a directive exposes under an order is one thing.
use Rattle.std.proofs.Common.{◌≡◌, ℕ, List, false, Some, sym, subst, ap, ◌∙◌}
use Rattle.pct_ask.specs.declared.Deal.{Deal}
use Rattle.pct_ask.specs.declared.verdict.Verdict.{Verdict}
use Rattle.pct_ask.specs.NameLists.{AreNames}
use Rattle.rank_now.specs.declared.moment.Moment.{Moment}
use Rattle.script_tree.specs.ScriptText.{ScriptText}
use Rattle.script_body.specs.Bodies.{bodies_of}
use Rattle.worker_run.specs.Run.{Run}
use Rattle.directive.specs.declared.directive.Directive.{Directive}
use Rattle.directive.specs.Directive.{IsDirective}
use Rattle.directive.specs.DirectiveText.{DirectiveText}
use Rattle.directive.specs.Answers.{plain_directive as plain}
use Rattle.pct_ask.specs.SameVerdict.{same_verdict}
use Rattle.directive_run.specs.Exposing.{Exposes}
use Rattle.directive_run.specs.declared.answers.Exposed.{Exposed}
use Rattle.directive_run.specs.declared.answers.Exposed.TheVariants.{Points, TooLong}
use Rattle.directive_run.proofs.laws.OneAnswer.{exposed-once}
use Rattle.pct_top.specs.Ordered.{OrderFits}
use Rattle.pct_top.specs.Printed.{Printed, OfDirective}
use Rattle.pct_top.specs.Runs.{trace_of_run, printed_trace}
use Rattle.pct_top.specs.commands.Expose.{long_text, TellsExposed, PrintsExposed, OfExpose}
use Rattle.pct_top.specs.Call.{IsCarriedOut}
use Rattle.pct_top.proofs.Work.{some_same, one_of_order, order_fits, one_of_directive}
use Rattle.pct_top.proofs.Work.{directive_fits}
use Rattle.pct_top.proofs.OneReport.{answers_as}

module _ (script : ScriptText) (deal : Deal) (limit : ℕ) where
  tells_once : (order : List ℕ) (verdict : Verdict) (exposed : Exposed) (p q : Printed)
      → TellsExposed script deal order limit verdict exposed p
      → TellsExposed script deal order limit verdict exposed q → p ≡ q
  tells_once order verdict (Points points played) p q a b =
      let same = some_same a.0 b.0 (sym a.1 ∙ b.1) in
      let printed : Run → Printed = λ ended.
      printed_trace script order points limit ended (same_verdict ended.1 verdict) in
      (a.2).is ∙ ap printed same ∙ sym (b.2).is
  tells_once order verdict (TooLong many) p q a b = a ∙ sym b

  tells_answer : (order : List ℕ) (verdict : Verdict) (exposed : Exposed) (p : Printed)
      → TellsExposed script deal order limit verdict exposed p → IsCarriedOut p.status
  tells_answer order verdict (Points points played) p a =
      answers_as p (trace_of_run script order points limit a.0) (same_verdict (a.0).1 verdict)
      (a.2).is
  tells_answer order verdict (TooLong many) p a = answers_as p (long_text many) false a

  module _ (steps : ℕ) where
    prints_once : (order : List ℕ) (one other : Directive) (p q : Printed)
        → plain one ≡ plain other → PrintsExposed script deal order steps limit one p
        → PrintsExposed script deal order steps limit other q → p ≡ q
    prints_once order one other p q same a b =
        let events : one.events ≡ other.events = ap (λ (d : DirectiveText). d.events) same in
        let verdicts : one.verdict ≡ other.verdict = ap (λ (d : DirectiveText). d.verdict) same in
        let E : List Moment → Type 0 = λ es.
        Exposes deal (bodies_of script) order es steps limit a.0 in
        let exposed : a.0 ≡ b.0 =
        exposed-once deal (bodies_of script) order other.events steps limit a.0 b.0
        (subst E events a.1) b.1 in
        let V : Verdict → Type 0 = λ v. TellsExposed script deal order limit v a.0 p in
        let X : Exposed → Type 0 = λ x. TellsExposed script deal order limit other.verdict x p in
        tells_once order other.verdict b.0 p q (subst X exposed (subst V verdicts a.2)) b.2

    module _ (bytes : List ℕ) (items : List (List ℕ)) (word : ℕ) (are : AreNames script.names) where
      abbrev Of : List ℕ → Printed → Type 0
      Of order = OfDirective bytes script.names (PrintsExposed script deal order steps limit)

      pub expose_once : (p q : Printed) → OfExpose bytes items word steps limit script deal p
          → OfExpose bytes items word steps limit script deal q → p ≡ q
      expose_once p q a b =
          one_of_order script.names items word Of
          (λ order p q. one_of_directive bytes script.names are
          (PrintsExposed script deal order steps limit) (prints_once order) p q) p q a b

      pub expose_answers : (p : Printed) → OrderFits script.names (Some items)
          → (directive : Directive) × IsDirective bytes script.names (plain directive)
          → OfExpose bytes items word steps limit script deal p → IsCarriedOut p.status
      expose_answers p fits second a =
          order_fits script.names items word Of (λ (q : Printed). IsCarriedOut q.status)
          (λ order q. directive_fits bytes script.names are
          (PrintsExposed script deal order steps limit) (λ (q : Printed). IsCarriedOut q.status)
          (λ directive q is. tells_answer order directive.verdict is.0 q is.2) q second) p fits a
