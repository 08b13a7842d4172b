-- A verdict as a text, from numbers (this project).
use Rattle.std.specs.Prelude.{◌≡◌, ℕ, List, Some}
use Rattle.pct_ask.specs.NameLists.{NameLists}
use Rattle.pct_ask.specs.VerdictText.{verdict_text}
use Rattle.pct_ask.specs.declared.verdict.Verdict.{Verdict}
use Rattle.c_values.specs.declared.outcome.PctOutcome.{PctOutcome}
use Rattle.c_values.specs.NamesText.{names_of_text}
use Rattle.c_texts.specs.Known.{SaysKnown}

-- the text of the verdict that the numbers say, under the names that a text says
pub record SaysVerdictText (of_names : List ℕ) (numbers : PctOutcome) (text : List ℕ) : Type 0 where
  pub names : NameLists
  pub named : names_of_text of_names ≡ Some names
  pub verdict : Verdict
  pub says : SaysKnown names numbers verdict
  pub written : text ≡ verdict_text names verdict
