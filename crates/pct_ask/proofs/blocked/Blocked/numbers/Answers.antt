-- The fields are told by the places.
use Rattle.std.proofs.Common.{sym, ap, ◌∙◌}
use Rattle.pct_ask.specs.Places.{lines_from, line_bits, line_numbers}
use Rattle.pct_ask.specs.PlaceLaws.{bits-back, numbers-back}
use Rattle.pct_ask.proofs.blocked.Blocked.numbers.Goals as goal

pub returns-clause-bits : goal.returns-clause-bits
returns-clause-bits c =
    sym (bits-back c.self.inside.threads c.self.inside.lines c.self.invariant)
    ∙ ap (λ places. line_bits (lines_from 0 64 places)) c.self.view_is

pub returns-clause-lines : goal.returns-clause-lines
returns-clause-lines c =
    sym (numbers-back c.self.inside.threads c.self.inside.lines c.self.invariant)
    ∙ ap (λ places. line_numbers (lines_from 0 64 places)) c.self.view_is
