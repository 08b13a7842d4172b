-- Tests of what a trace may tell, each for one part of it (this project).
use Rattle.std.specs.Prelude.{◌≡◌, ◌≤◌, ◌<◌, ◌⊎◌, ℕ, List, false, length, All}
use Rattle.pct_ask.specs.TraceText.{TraceHead}
use Rattle.pct_ask.specs.VerdictText.{IsLine}
use Rattle.pct_ask.specs.declared.verdict.Verdict.{Verdict}
use Rattle.trace_text.specs.Lawful.{is_of_second}
use Rattle.pct_ask.specs.declared.limits.TheConstants.{MAX_POINTS}
use Rattle.pct_ask.specs.Limits.{IsStepCount}

-- the thread is one of so many, and the line is a test's
abbrev pub IsKnownPlace : ℕ → ℕ × ℕ → Type 0
IsKnownPlace threads place = (place.0 < threads) × IsLine place.1

-- a trace of the version may tell the verdict
abbrev pub IsOfVersion : ℕ → Verdict → Type 0
IsOfVersion version verdict = (is_of_second verdict ≡ false) ⊎ (version ≡ 2)

-- the head of these numbers
abbrev pub head_by : ℕ → ℕ → List ℕ → List ℕ → TraceHead
head_by version limit order points =
    record { version = version; limit = limit; order = order; points = points }

-- all of a head but its order is that of a trace with so many threads
pub record IsPlainHead (threads : ℕ) (head : TraceHead) : Type 0 where
  pub version : (head.version ≡ 1) ⊎ (head.version ≡ 2)
  pub whole : length head.order ≡ threads
  pub few_points : length head.points ≤ MAX_POINTS
  pub points : All IsStepCount head.points
  pub limit : IsStepCount head.limit
