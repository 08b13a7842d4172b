-- What a text is by the grammar and by the rules of faults: one directive, or one first fault (this
-- project).
use Rattle.std.specs.Prelude.{◌≡◌, ℕ, ◌⊎◌, List, Result, Ok, Err}
use Rattle.pct_ask.specs.NameLists.{NameLists, AreNames}
use Rattle.directive.specs.DirectiveText.{DirectiveText}
use Rattle.directive.specs.Directive.{IsDirective}
use Rattle.directive.specs.Faults.{IsDirectiveFault}
use Rattle.directive.specs.declared.directive.Directive.{Directive}
use Rattle.directive.specs.declared.fault.DirectiveFault.{DirectiveFault}
use Rattle.directive.specs.declared.fault.DirectiveError.{DirectiveError}
use Rattle.directive.specs.declared.fault.DirectiveError.TheVariants.{Bad, NoMemory}

-- the text is this directive's and no other's, and has no fault
pub record IsOnlyDirective (bytes : List ℕ) (names : NameLists)
    (told : DirectiveText) : Type 0 where
  pub is : IsDirective bytes names told
  pub only : (other : DirectiveText) → IsDirective bytes names other → told ≡ other
  pub faultless : (line : ℕ) (kind : DirectiveFault) → ¬ IsDirectiveFault bytes names line kind

-- the text has this first fault and no other, and is no directive
pub record IsOnlyFault (bytes : List ℕ) (names : NameLists) (line : ℕ)
    (kind : DirectiveFault) : Type 0 where
  pub is : IsDirectiveFault bytes names line kind
  pub only : (other : ℕ) (k : DirectiveFault) → IsDirectiveFault bytes names other k
      → (line ≡ other) × (kind ≡ k)
  pub no_directive : (told : DirectiveText) → ¬ IsDirective bytes names told

-- the text is that of just one directive, and has no fault
abbrev pub TellsOne : List ℕ → NameLists → Type 0
TellsOne bytes names = (told : DirectiveText) × IsOnlyDirective bytes names told

-- the text is no directive's, and has just one first fault
abbrev pub FailsOnce : List ℕ → NameLists → Type 0
FailsOnce bytes names = (line : ℕ) × (kind : DirectiveFault) × IsOnlyFault bytes names line kind

-- Under the names of a test each text is one directive's or has one first fault, and never both.
abbrev pub EachHasOneAnswer : Type 0
EachHasOneAnswer =
    (bytes : List ℕ) (names : NameLists) → AreNames names
    → TellsOne bytes names ⊎ FailsOnce bytes names

-- a directive as plain data
abbrev pub plain_directive : Directive → DirectiveText
plain_directive directive =
    record { low = directive.low; events = directive.events; verdict = directive.verdict }

-- A directive is answered of a text that is its own, and a fault of a text that has it. Want of
-- memory says nothing of a text.
abbrev pub AnswersDirective : List ℕ → NameLists → Result Directive DirectiveError → Type 0
AnswersDirective bytes names (Ok directive) = IsDirective bytes names (plain_directive directive)
AnswersDirective bytes names (Err (Bad line kind)) = IsDirectiveFault bytes names line kind
AnswersDirective bytes names (Err NoMemory) = Unit {0}
