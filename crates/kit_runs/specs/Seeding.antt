-- The seeds of a campaign (this project).
use Rattle.std.specs.Prelude.{ℕ, ◌+◌, ◌%◌, ◌^◌}

-- the seed at a place, from 0: after the last one, 2^64 - 1, comes 0
abbrev pub seed_at : ℕ → ℕ → ℕ
seed_at first place = (first + place) % 2 ^ 64
