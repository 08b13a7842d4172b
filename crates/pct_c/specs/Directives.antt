-- What is told of directives that are read (this project).
use Rattle.std.specs.Prelude.{◌≡◌, ◌≢◌, ◌⊎◌, ℕ, List, Some, None, Result, Ok, Err}
use Rattle.pct_ask.specs.NameLists.{NameLists}
use Rattle.directive.specs.Answers.{plain_directive}
use Rattle.directive.specs.Directive.{IsDirective}
use Rattle.directive.specs.Faults.{IsDirectiveFault}
use Rattle.directive.specs.declared.directive.Directive.{Directive}
use Rattle.directive.specs.declared.fault.DirectiveFault.{DirectiveFault}
use Rattle.directive.specs.declared.fault.DirectiveFault.TheVariants.{TooLong, BadHeader, BadLine}
use Rattle.directive.specs.declared.fault.DirectiveFault.TheVariants.{UnknownName, NoVerdict}
use Rattle.directive.specs.declared.fault.DirectiveFault.TheVariants.{MoreAfterVerdict}
use Rattle.c_values.specs.NamesText.{names_of_text}
use Rattle.c_texts.specs.declared.directives.PctDirective.{PctDirective}
use Rattle.c_texts.specs.Directives.{TellsDirective}
use Rattle.pct_c.specs.declared.traces.PctRead.{PctRead}

-- what is wrong with a directive, by its number: that of the same fault of a trace
abbrev pub directive_fault : DirectiveFault → ℕ
directive_fault TooLong = 1
directive_fault BadHeader = 2
directive_fault BadLine = 3
directive_fault UnknownName = 4
directive_fault NoVerdict = 6
directive_fault MoreAfterVerdict = 7

-- the text is this directive's, under the names that another text says
pub record IsReadDirective (of_names bytes : List ℕ) (told : Directive) : Type 0 where
  pub names : NameLists
  pub named : names_of_text of_names ≡ Some names
  pub is : IsDirective bytes names (plain_directive told)

-- the text has this first fault, under the names that another text says
pub record IsDirectiveReadFault (of_names bytes : List ℕ) (line fault : ℕ) : Type 0 where
  pub names : NameLists
  pub named : names_of_text of_names ≡ Some names
  pub kind : DirectiveFault
  pub number : fault ≡ directive_fault kind
  pub is : IsDirectiveFault bytes names line kind

-- bad: the text of names says none, or the other text has a first fault; else there is no memory
pub record RefusesDirective (of_names bytes : List ℕ) (read : PctRead) : Type 0 where
  pub bad : read.status ≡ 5 → ((read.line ≡ 0) × (names_of_text of_names ≡ None))
      ⊎ IsDirectiveReadFault of_names bytes read.line read.fault
  pub statuses : (read.status ≡ 5) ⊎ (read.status ≡ 6)

abbrev pub AnswersDirectiveRead : List ℕ → List ℕ → Result Directive PctRead → Type 0
AnswersDirectiveRead of_names bytes (Ok told) = IsReadDirective of_names bytes told
AnswersDirectiveRead of_names bytes (Err read) = RefusesDirective of_names bytes read

-- Done: the text is a directive's, and its numbers are written. Bad and no memory as above, and
-- nothing is written.
pub record ReadsDirective (of_names bytes : List ℕ) (read : PctRead) (before after : PctDirective)
    : Type 0 where
  pub done : read.status ≡ 0 → (told : Directive) × IsReadDirective of_names bytes told
      × TellsDirective told after
  pub bad : read.status ≡ 5 → ((read.line ≡ 0) × (names_of_text of_names ≡ None))
      ⊎ IsDirectiveReadFault of_names bytes read.line read.fault
  pub statuses : (read.status ≡ 0) ⊎ ((read.status ≡ 5) ⊎ (read.status ≡ 6))
  pub unwritten : read.status ≢ 0 → after ≡ before
