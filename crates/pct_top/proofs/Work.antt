-- The order of work prints one thing: of a script, of an order of its threads and of a trace.
use Rattle.std.proofs.Common.{◌≡◌, ℕ, inl, inr, List, length, Option, Some, None, Ok, Err, sym}
use Rattle.std.proofs.Common.{subst, ap, ◌∙◌}
use Rattle.pct_ask.specs.declared.Deal.{Deal}
use Rattle.pct_ask.specs.NameLists.{NameLists, AreNames}
use Rattle.script_tree.specs.declared.fault.ScriptFault.{ScriptFault}
use Rattle.script_tree.specs.ScriptText.{ScriptText}
use Rattle.script_tree.specs.DealOf.{IsDealOf}
use Rattle.script_tree.specs.Grammar.{Spells}
use Rattle.script_parse.proofs.laws.Scripts.{one_script, spelled_no_fault}
use Rattle.script_parse.proofs.laws.Faults.{one_fault}
use Rattle.trace_text.specs.declared.file.TraceFile.{TraceFile}
use Rattle.trace_text.specs.declared.fault.TraceFault.{TraceFault}
use Rattle.trace_text.specs.declared.fault.TraceError.TheVariants.{Bad}
use Rattle.trace_text.specs.Trace.{IsTrace}
use Rattle.trace_text.specs.Faults.{IsTraceFault}
use Rattle.trace_text.proofs.laws.Faults.{one-fault}
use Rattle.trace_text.proofs.laws.Answers.{written-answer}
use Rattle.pct_ask.specs.Pieces.{pieces_of}
use Rattle.directive.specs.declared.directive.Directive.{Directive}
use Rattle.directive.specs.declared.fault.DirectiveFault.{DirectiveFault}
use Rattle.directive.specs.DirectiveText.{DirectiveText}
use Rattle.directive.specs.Directive.{IsDirective}
use Rattle.directive.specs.Faults.{IsDirectiveFault}
use Rattle.directive.specs.Answers.{plain_directive as plain}
use Rattle.directive.proofs.Laws.{each-has-one}
use Rattle.pct_top.specs.declared.refusal.Refusal.TheVariants.{Script, Trace}
use Rattle.pct_top.specs.declared.refusal.Refusal.TheVariants.{Directive as BadDirective}
use Rattle.pct_top.specs.Ordered.{NamesAll, OrderFits}
use Rattle.pct_top.specs.Printed.{Printed, printed_refusal, OfScript, OfOrder, OfTrace, OfDirective}
use Rattle.pct_top.proofs.Deals.{one_deal}

given_or : {A : Type 0} → A → Option A → A
given_or a (Some b) = b
given_or a None = a

pub some_same : {A : Type 0} (a b : A) → Some a ≡ Some b → a ≡ b
unfolding given_or
some_same a b e = ap (given_or a) e

-- ---- an order

module _ (names : NameLists) (items : List (List ℕ)) (word : ℕ)
    (of : List ℕ → Printed → Type 0) where
  pub one_of_order : ((order : List ℕ) (p q : Printed) → of order p → of order q → p ≡ q)
      → (p q : Printed) → OfOrder names items word of p → OfOrder names items word of q → p ≡ q
  one_of_order one p q (inl a) (inl b) =
      let same : a.0 ≡ b.0 = some_same a.0 b.0 (sym (a.1).named ∙ (b.1).named) in
      one b.0 p q (subst (λ (o : List ℕ). of o p) same a.2) b.2
  one_of_order one p q (inl a) (inr b) = absurd (b.0 a.0 a.1)
  one_of_order one p q (inr a) (inl b) = absurd (a.0 b.0 b.1)
  one_of_order one p q (inr a) (inr b) = a.1 ∙ sym b.1

  -- an order that fits isn't refused
  pub order_fits : (P : Printed → Type 0) → ((order : List ℕ) (p : Printed) → of order p → P p)
      → (p : Printed) → OrderFits names (Some items) → OfOrder names items word of p → P p
  order_fits P has p fits (inl a) = has a.0 p a.2
  order_fits P has p fits (inr a) = absurd (a.0 fits.0 fits.1)

  -- where the names give this order, this is printed of it
  pub named_order : (order : List ℕ) → NamesAll names items order → (p : Printed)
      → OfOrder names items word of p → of order p
  named_order order gives p (inl a) =
      subst (λ (o : List ℕ). of o p) (some_same a.0 order (sym (a.1).named ∙ gives.named)) a.2
  named_order order gives p (inr a) = absurd (a.0 order gives)

-- ---- a trace

module _ (bytes : List ℕ) (names : NameLists) (are : AreNames names) where
  one_trace : (file other : TraceFile) → IsTrace bytes names file → IsTrace bytes names other
      → file ≡ other
  one_trace file other a b = elim (written-answer names bytes other (Ok file) are b a) [
    | inl e ↦ cc
    | inr e ↦ absurd cc
  ]

  traced_no_fault : (file : TraceFile) (line : ℕ) (kind : TraceFault) → IsTrace bytes names file
      → ¬ IsTraceFault bytes names line kind
  traced_no_fault file line kind a b =
      elim (written-answer names bytes file (Err (Bad line kind)) are a b) [
        | inl e ↦ absurd cc
        | inr e ↦ absurd cc
      ]

  module _ (of : TraceFile → Printed → Type 0) where
    pub one_of_trace : ((file : TraceFile) (p q : Printed) → of file p → of file q → p ≡ q)
        → (p q : Printed) → OfTrace bytes names of p → OfTrace bytes names of q → p ≡ q
    one_of_trace one p q (inl a) (inl b) =
        let same = one_trace a.0 b.0 a.1 b.1 in
        one b.0 p q (subst (λ (f : TraceFile). of f p) same a.2) b.2
    one_of_trace one p q (inl a) (inr b) = absurd (traced_no_fault a.0 b.0 b.1 a.1 b.2)
    one_of_trace one p q (inr a) (inl b) = absurd (traced_no_fault b.0 a.0 a.1 b.1 a.2)
    one_of_trace one p q (inr a) (inr b) =
        let same = one-fault (length bytes) names (pieces_of bytes) a.0 b.0 a.1 b.1 a.2 b.2 in
        a.3 ∙ ap (λ n. printed_refusal (Trace n a.1)) same.0
        ∙ ap (λ (k : TraceFault). printed_refusal (Trace b.0 k)) same.1 ∙ sym b.3

    -- a trace isn't refused
    pub trace_fits : (P : Printed → Type 0) → ((file : TraceFile) (p : Printed) → of file p → P p)
        → (p : Printed) → (file : TraceFile) × IsTrace bytes names file → OfTrace bytes names of p
        → P p
    trace_fits P has p fits (inl a) = has a.0 p a.2
    trace_fits P has p fits (inr a) = absurd (traced_no_fault fits.0 a.0 a.1 fits.1 a.2)

-- ---- a directive

module _ (bytes : List ℕ) (names : NameLists) (are : AreNames names) where
  one_plan : (a b : DirectiveText) → IsDirective bytes names a → IsDirective bytes names b → a ≡ b
  one_plan a b is other = elim (each-has-one bytes names are) [
    | inl one ↦ sym ((one.1).only a is) ∙ (one.1).only b other
    | inr fault ↦ absurd ((fault.2).no_directive a is)
  ]

  directive_no_fault : (a : DirectiveText) (line : ℕ) (kind : DirectiveFault)
      → IsDirective bytes names a → ¬ IsDirectiveFault bytes names line kind
  directive_no_fault a line kind is bad = elim (each-has-one bytes names are) [
    | inl one ↦ (one.1).faultless line kind bad
    | inr fault ↦ (fault.2).no_directive a is
  ]

  one_directive_fault : (line other : ℕ) (kind more : DirectiveFault)
      → IsDirectiveFault bytes names line kind → IsDirectiveFault bytes names other more
      → (line ≡ other) × (kind ≡ more)
  one_directive_fault line other kind more a b = elim (each-has-one bytes names are) [
    | inl one ↦ absurd ((one.1).faultless line kind a)
    | inr fault ↦
        let first = (fault.2).only line kind a in
        let second = (fault.2).only other more b in
        (sym first.0 ∙ second.0, sym first.1 ∙ second.1)
  ]

  module _ (of : Directive → Printed → Type 0) where
    pub one_of_directive :
        ((a b : Directive) (p q : Printed) → plain a ≡ plain b → of a p → of b q → p ≡ q)
        → (p q : Printed) → OfDirective bytes names of p → OfDirective bytes names of q → p ≡ q
    one_of_directive one p q (inl a) (inl b) =
        one a.0 b.0 p q (one_plan (plain a.0) (plain b.0) a.1 b.1) a.2 b.2
    one_of_directive one p q (inl a) (inr b) =
        absurd (directive_no_fault (plain a.0) b.0 b.1 a.1 b.2)
    one_of_directive one p q (inr a) (inl b) =
        absurd (directive_no_fault (plain b.0) a.0 a.1 b.1 a.2)
    one_of_directive one p q (inr a) (inr b) =
        let same = one_directive_fault a.0 b.0 a.1 b.1 a.2 b.2 in
        a.3 ∙ ap (λ n. printed_refusal (BadDirective n a.1)) same.0
        ∙ ap (λ (k : DirectiveFault). printed_refusal (BadDirective b.0 k)) same.1 ∙ sym b.3

    -- a directive isn't refused
    pub directive_fits : (P : Printed → Type 0)
        → ((directive : Directive) (p : Printed) → of directive p → P p) → (p : Printed)
        → (directive : Directive) × IsDirective bytes names (plain directive)
        → OfDirective bytes names of p → P p
    directive_fits P has p fits (inl a) = has a.0 p a.2
    directive_fits P has p fits (inr a) =
        absurd (directive_no_fault (plain fits.0) a.0 a.1 fits.1 a.2)

    -- where the bytes are this directive, this is printed of it
    pub named_directive : (plan : DirectiveText) → IsDirective bytes names plan → (p : Printed)
        → OfDirective bytes names of p
        → (directive : Directive) × (plain directive ≡ plan) × of directive p
    named_directive plan is p (inl a) = (a.0, one_plan (plain a.0) plan a.1 is, a.2)
    named_directive plan is p (inr a) = absurd (directive_no_fault plan a.0 a.1 is a.2)

-- ---- a script

module _ (bytes : List ℕ) (of : ScriptText → Deal → Printed → Type 0) where
  pub one_of_script : ((script : ScriptText) (deal : Deal) (p q : Printed) → AreNames script.names
      → of script deal p → of script deal q → p ≡ q) → (p q : Printed) → OfScript bytes of p
      → OfScript bytes of q → p ≡ q
  one_of_script one p q (inl a) (inl b) =
      let script = b.0 in
      let same = one_script bytes a.0 b.0 a.1 b.1 in
      let T : ScriptText → Type 0 = λ s. (deal : Deal) × IsDealOf s deal × of s deal p in
      let moved : T script = subst T same a.2 in
      let deals = one_deal script moved.0 b.2.0 moved.1 b.2.1 in
      one script b.2.0 p q (b.1).names (subst (λ (d : Deal). of script d p) deals moved.2) b.2.2
  one_of_script one p q (inl a) (inr b) = absurd (spelled_no_fault bytes a.0 b.0 b.1 a.1 b.2)
  one_of_script one p q (inr a) (inl b) = absurd (spelled_no_fault bytes b.0 a.0 a.1 b.1 a.2)
  one_of_script one p q (inr a) (inr b) =
      let same = one_fault bytes a.0 b.0 a.1 b.1 a.2 b.2 in
      a.3 ∙ ap (λ n. printed_refusal (Script n a.1)) same.0
      ∙ ap (λ (k : ScriptFault). printed_refusal (Script b.0 k)) same.1 ∙ sym b.3

  -- a script that is spelled isn't refused
  pub script_fits : (P : Printed → Type 0) (script : ScriptText) → Spells bytes script
      → ((deal : Deal) (p : Printed) → AreNames script.names → of script deal p → P p)
      → (p : Printed) → OfScript bytes of p → P p
  script_fits P script spells has p (inl a) =
      let same = one_script bytes a.0 script a.1 spells in
      let T : ScriptText → Type 0 = λ s. (deal : Deal) × IsDealOf s deal × of s deal p in
      let moved : T script = subst T same a.2 in
      has moved.0 p spells.names moved.2
  script_fits P script spells has p (inr a) =
      absurd (spelled_no_fault bytes script a.0 a.1 spells a.2)

  -- where the bytes spell this script, this is printed of it and of what its threads share
  pub named_script : (script : ScriptText) (deal : Deal) → Spells bytes script
      → IsDealOf script deal → (p : Printed) → OfScript bytes of p → of script deal p
  named_script script deal spells deals p (inl a) =
      let same = one_script bytes a.0 script a.1 spells in
      let T : ScriptText → Type 0 = λ s. (d : Deal) × IsDealOf s d × of s d p in
      let moved : T script = subst T same a.2 in
      let own = one_deal script moved.0 deal moved.1 deals in
      subst (λ (d : Deal). of script d p) own moved.2
  named_script script deal spells deals p (inr a) =
      absurd (spelled_no_fault bytes script a.0 a.1 spells a.2)
