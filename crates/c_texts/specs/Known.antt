-- Verdicts that may be written (this project).
use Rattle.std.specs.Prelude.{◌≡◌, ◌<◌, ℕ, List, Some, length, All}
use Rattle.pct_ask.specs.NameLists.{NameLists}
use Rattle.pct_ask.specs.declared.verdict.Verdict.{Verdict}
use Rattle.report_text.specs.Report.{IsWritable}
use Rattle.trace_text.specs.Known.{IsKnownPlace}
use Rattle.c_values.specs.declared.outcome.PctOutcome.{PctOutcome}
use Rattle.c_values.specs.Outcomes.{verdict_said}

-- somebody is blocked, and each is known
abbrev pub AreKnownBlocked : ℕ → List (ℕ × ℕ) → Type 0
AreKnownBlocked threads places = (0 < length places) × All (IsKnownPlace threads) places

-- the numbers say the verdict, and it has a text under the names
pub record SaysKnown (names : NameLists) (numbers : PctOutcome) (verdict : Verdict) : Type 0 where
  pub says : verdict_said numbers ≡ Some verdict
  pub known : IsWritable names verdict

-- the numbers say a verdict that has a text under the names
pub record IsKnown (names : NameLists) (numbers : PctOutcome) : Type 0 where
  pub verdict : Verdict
  pub says : SaysKnown names numbers verdict
