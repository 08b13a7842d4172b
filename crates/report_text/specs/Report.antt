-- What a report may tell (this project).
use Rattle.std.specs.Prelude.{◌<◌, length, All}
use Rattle.pct_ask.specs.NameLists.{NameLists}
use Rattle.pct_ask.specs.VerdictText.{HasNames, IsWholeVerdict}
use Rattle.pct_ask.specs.declared.verdict.Verdict.{Verdict}
use Rattle.report_text.specs.declared.swept.SweptGroup.{SweptGroup}

-- a verdict that has a text: its threads have names, its lines are a test's, and a list of blocked
-- threads isn't empty
pub record IsWritable (names : NameLists) (verdict : Verdict) : Type 0 where
  pub named : HasNames names verdict
  pub whole : IsWholeVerdict verdict

-- a group that has a text: the threads of its order have names, and so its verdict's
pub record IsTellable (names : NameLists) (group : SweptGroup) : Type 0 where
  pub ordered : All (λ thread. thread < length names.threads) group.order
  pub verdict : IsWritable names group.verdict
