-- The certificate of a directive is one thing.
use Rattle.std.proofs.Common.{◌≡◌, ℕ, ◌≤◌, List, length, sym, subst, ap, ◌∙◌}
use Rattle.std.specs.Coded.{le_prop}
use Rattle.pct_ask.specs.declared.Deal.{Deal}
use Rattle.pct_ask.specs.NameLists.{AreNames}
use Rattle.pct_ask.specs.Bodies.{Pending}
use Rattle.script_tree.specs.ScriptText.{ScriptText}
use Rattle.script_body.specs.Bodies.{bodies_of}
use Rattle.directive.specs.declared.directive.Directive.{Directive}
use Rattle.directive.specs.Directive.{IsDirective}
use Rattle.directive.specs.DirectiveText.{DirectiveText}
use Rattle.directive.specs.Answers.{plain_directive as plain}
use Rattle.directive_run.specs.Certifying.{Certifies}
use Rattle.directive_run.specs.declared.answers.Certified.{Certified}
use Rattle.directive_run.proofs.laws.OneAnswer.{certified-once}
use Rattle.pct_top.specs.Printed.{Printed}
use Rattle.pct_top.specs.commands.Certify.{certificate_text, is_certified, printed_certificate}
use Rattle.pct_top.specs.commands.Certify.{PrintsCertificate, OfCertify}
use Rattle.pct_top.specs.Call.{IsCarriedOut}
use Rattle.pct_top.proofs.Work.{one_of_directive, directive_fits}
use Rattle.pct_top.proofs.OneReport.{answers_as}

-- a directive from plain data
abbrev made : (text : DirectiveText) → length text.events ≤ 7 → Directive
made text few =
    record { low = text.low; events = text.events; verdict = text.verdict; few = few }

-- Directives of the same plain data have the same certificate.
certifies_as : (deal : Deal) (bodies : List Pending) (one other : Directive) (steps limit : ℕ)
    (certified : Certified) → plain one ≡ plain other
    → Certifies deal bodies one steps limit certified
    → Certifies deal bodies other steps limit certified
certifies_as deal bodies one other steps limit certified same is =
    let P : DirectiveText → Type 0 = λ text. (few : length text.events ≤ 7)
    → Certifies deal bodies (made text few) steps limit certified in
    let first : P (plain one) = λ few.
    subst (λ f. Certifies deal bodies (made (plain one) f) steps limit certified)
    (le_prop one.few few) is in
    (subst P same first) other.few

module _ (script : ScriptText) (deal : Deal) (steps limit : ℕ) where
  prints_once : (one other : Directive) (p q : Printed) → plain one ≡ plain other
      → PrintsCertificate script deal steps limit one p
      → PrintsCertificate script deal steps limit other q → p ≡ q
  prints_once one other p q same a b =
      let moved = certifies_as deal (bodies_of script) one other steps limit a.0 same a.1 in
      let is : a.0 ≡ b.0 =
      certified-once deal (bodies_of script) other steps limit a.0 b.0 moved b.1 in
      a.2 ∙ ap (printed_certificate script.names) is ∙ sym b.2

  module _ (bytes : List ℕ) (are : AreNames script.names) where
    pub certify_once : (p q : Printed) → OfCertify bytes steps limit script deal p
        → OfCertify bytes steps limit script deal q → p ≡ q
    certify_once p q a b =
        one_of_directive bytes script.names are (PrintsCertificate script deal steps limit)
        prints_once p q a b

    pub certify_answers : (p : Printed)
        → (directive : Directive) × IsDirective bytes script.names (plain directive)
        → OfCertify bytes steps limit script deal p → IsCarriedOut p.status
    certify_answers p second a =
        directive_fits bytes script.names are (PrintsCertificate script deal steps limit)
        (λ (q : Printed). IsCarriedOut q.status)
        (λ directive q is.
        answers_as q (certificate_text script.names is.0) (is_certified is.0) is.2) p second a
