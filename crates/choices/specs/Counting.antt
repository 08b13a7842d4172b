-- How many choices of an order and change points lead to a verdict (this project).
use Rattle.std.specs.Prelude.{ℕ, Bool, false, List, Option, Some, None, sum_by, count_by}
use Rattle.pct_ask.specs.declared.event.Event.{Event}
use Rattle.pct_ask.specs.declared.verdict.Verdict.{Verdict}
use Rattle.pct_ask.specs.SameVerdict.{same_verdict}
use Rattle.turn_book.specs.Chances.{threads_below}
use Rattle.choices.specs.Orders.{orders}
use Rattle.choices.specs.PointLists.{pointlists}

-- the run that an order and points lead to, its steps and its verdict, where there is one
abbrev pub LedRuns : Type 0
LedRuns = List ℕ → List ℕ → Option (List Event × Verdict)

-- whether a run was made and ended with the verdict
abbrev pub has_verdict : Verdict → Option (List Event × Verdict) → Bool
has_verdict verdict None = false
has_verdict verdict (Some run) = same_verdict run.1 verdict

-- how many of some lists of points lead to the verdict under the order
abbrev pub hits_under : LedRuns → List ℕ → List (List ℕ) → Verdict → ℕ
hits_under leads order lists verdict =
    count_by (λ points. has_verdict verdict (leads order points)) lists

-- The number of pairs of an order of the threads and a list of so many points in 1..k whose run has
-- the verdict.
abbrev pub hits : LedRuns → ℕ → ℕ → ℕ → Verdict → ℕ
hits leads threads k many verdict =
    sum_by (λ order. hits_under leads order (pointlists k many) verdict)
    (orders (threads_below threads))
