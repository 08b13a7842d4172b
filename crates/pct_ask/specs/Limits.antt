-- How large numbers of a run may be (this project).
use Rattle.std.specs.Prelude.{ℕ, ◌≤◌}
use Rattle.pct_ask.specs.declared.limits.TheConstants.{MAX_DEPTH, MAX_STEPS}

-- a number of steps: a limit, a count of runs, or the step of a change point
abbrev pub IsStepCount : ℕ → Type 0
IsStepCount n = (1 ≤ n) × (n ≤ MAX_STEPS)

-- a depth: one more than a number of change points (the PCT paper's d)
abbrev pub IsDepth : ℕ → Type 0
IsDepth depth = (1 ≤ depth) × (depth ≤ MAX_DEPTH)
