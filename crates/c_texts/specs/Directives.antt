-- A directive as a text, from numbers (this project).
use Rattle.std.specs.Prelude.{◌≡◌, ◌≤◌, ◌<◌, ℕ, List, Some, length, All, map, take}
use Rattle.pct_ask.specs.NameLists.{NameLists}
use Rattle.pct_ask.specs.declared.verdict.Outcome.TheVariants.{Verdict as Ends}
use Rattle.directive.specs.Directive.{IsMoment}
use Rattle.directive.specs.DirectiveText.{DirectiveText, directive_text}
use Rattle.directive.specs.Answers.{plain_directive}
use Rattle.directive.specs.declared.directive.Directive.{Directive}
use Rattle.c_values.specs.Moments.{moment_said, moment_numbers}
use Rattle.c_values.specs.NamesText.{names_of_text}
use Rattle.c_values.specs.Outcomes.{outcome_numbers}
use Rattle.c_texts.specs.declared.directives.PctDirective.{PctDirective}
use Rattle.c_texts.specs.Known.{SaysKnown}
use Rattle.pct_ask.specs.declared.limits.TheConstants.{MAX_POINTS}

-- The numbers say the directive, and it has a text under the names: its threads have names, and
-- there
-- are at most 7 moments.
pub record SaysDirective (names : NameLists) (numbers : PctDirective) (told : DirectiveText)
    : Type 0 where
  pub says : SaysKnown names numbers.verdict told.verdict
  pub low_is : told.low ≡ numbers.low
  pub low_named : told.low < length names.threads
  pub few : numbers.count ≤ MAX_POINTS
  pub moments : told.events ≡ map moment_said (take numbers.count numbers.moments)
  pub lawful : All (IsMoment names) told.events

-- the text of the directive that the numbers say, under the names that a text says
pub record IsDirectiveText (of_names : List ℕ) (numbers : PctDirective) (text : List ℕ)
    : Type 0 where
  pub names : NameLists
  pub named : names_of_text of_names ≡ Some names
  pub told : Directive
  pub says : SaysDirective names numbers (plain_directive told)
  pub written : text ≡ directive_text names (plain_directive told)

-- the numbers are those of the directive: its moments come first in their array
pub record TellsDirective (told : Directive) (numbers : PctDirective) : Type 0 where
  pub low : numbers.low ≡ told.low
  pub count : numbers.count ≡ length told.events
  pub moments : take numbers.count numbers.moments ≡ map moment_numbers told.events
  pub verdict : numbers.verdict ≡ outcome_numbers (Ends told.verdict)
