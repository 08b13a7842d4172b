-- What is drawn are numbers of steps.
use Rattle.std.proofs.Common.{ℕ, List, arith}
use Rattle.std.specs.Prelude.{All}
use Rattle.priority_draw.specs.Drawing.{IsStepOfPoint}
use Rattle.pct_ask.specs.Limits.{IsStepCount}

pub drawn_points : (steps : ℕ) (points : List ℕ) → IsStepCount steps
    → All (IsStepOfPoint steps) points
    → All IsStepCount points
drawn_points steps points fits all = λ k d within. let is = all k d within in
    (is.first, omega (arith, is.last, fits.1))
