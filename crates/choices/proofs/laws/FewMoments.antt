-- There are no more moments than points.
use Rattle.std.proofs.Common.{ℕ, suc, ◌≤◌, Bool, true, false, List, [], ◌∷◌, length, cond, arith}
use Rattle.choices.specs.Moments.{is_kept, moment_at, moments_of}

few-by : (schedule : List ℕ) (point : ℕ) (later : List ℕ) (b : Bool)
    → length (moments_of schedule later) ≤ length later
    → length (cond b (moment_at schedule point ∷ moments_of schedule later)
    (moments_of schedule later)) ≤ suc (length later)
few-by schedule point later true rest = omega arith
few-by schedule point later false rest = omega arith

pub moments-few : (schedule points : List ℕ) → length (moments_of schedule points) ≤ length points
moments-few schedule [] = omega arith
moments-few schedule (point ∷ later) =
    few-by schedule point later (is_kept schedule point later) (moments-few schedule later)
