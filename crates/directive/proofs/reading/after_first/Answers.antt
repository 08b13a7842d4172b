-- What follows the first line is what is read from the second line on.
use Rattle.std.proofs.Common.{sym, ◌∙◌}
use Rattle.directive.proofs.Bodies.{first-found}
use Rattle.directive.proofs.reading.after_first.Goals as goal

pub returns-then-eq : goal.returns-then-eq
returns-then-eq c =
    λ names. first-found names _ c.cut_line.result.0.now c.cut_line.result.1
    c.cut_line.ensures.pieces (sym c.eq.ensures ∙ c.if-eq.true)
