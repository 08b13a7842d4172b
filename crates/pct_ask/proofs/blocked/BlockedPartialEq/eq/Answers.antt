-- Equal bits and numbers are equal places.
use Rattle.pct_ask.proofs.PlaceLemmas.{same_by_numbers, other_by_bits}
use Rattle.pct_ask.proofs.blocked.BlockedPartialEq.eq.Goals as goal

pub returns-then-self-other : goal.returns-then-self-other
returns-then-self-other c =
    same_by_numbers c.self.inside.threads c.other.inside.threads c.self.inside.lines
    c.other.inside.lines _ _ c.self.invariant c.other.invariant c.self.view_is c.other.view_is
    c.eq.result c.if-self-other.true c.eq.ensures

pub returns-else-self-other : goal.returns-else-self-other
returns-else-self-other c =
    other_by_bits c.self.inside.threads c.other.inside.threads c.self.inside.lines
    c.other.inside.lines _ _ c.self.invariant c.other.invariant c.self.view_is c.other.view_is
    c.if-self-other.false
