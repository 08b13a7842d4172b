-- The names and the verdict that a text and numbers say are the only ones.
use Rattle.std.proofs.Common.{◌≡◌, ℕ, List, Some}
use Rattle.pct_ask.specs.NameLists.{NameLists}
use Rattle.pct_ask.specs.declared.verdict.Verdict.{Verdict}
use Rattle.c_values.specs.declared.outcome.PctOutcome.{PctOutcome}
use Rattle.c_values.specs.NamesText.{names_of_text}
use Rattle.c_values.specs.Outcomes.{verdict_said}

pub same_names : (text : List ℕ) (names others : NameLists) → names_of_text text ≡ Some names
    → names_of_text text ≡ Some others → others ≡ names
same_names text names others e f = cc

pub same_verdict : (numbers : PctOutcome) (one other : Verdict) → verdict_said numbers ≡ Some one
    → verdict_said numbers ≡ Some other → other ≡ one
same_verdict numbers one other e f = cc
