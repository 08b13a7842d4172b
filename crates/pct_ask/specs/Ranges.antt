-- The ranges that the objects of a test keep.
use Rattle.std.specs.Prelude.{ℤ, pos, ◌≤ℤ◌}

-- what a semaphore may hold: 0 to 2147483647 (this project's SEM_VALUE_MAX)
abbrev pub IsSemValue : ℤ → Type 0
IsSemValue n = (pos 0 ≤ℤ n) × (n ≤ℤ pos 2147483647)

-- how many threads a barrier may wait for (this project)
abbrev pub IsBarrierCount : ℤ → Type 0
IsBarrierCount n = (pos 1 ≤ℤ n) × (n ≤ℤ pos 1000)
