-- Turns by what is said of them in brief.
use Rattle.std.proofs.Common.{◌≡◌, ℤ, ap}
use Rattle.turn_lock.specs.Briefs.{brief}
use Rattle.turn_lock.specs.declared.brief.Brief.TheVariants as briefs
use Rattle.turn_lock.specs.declared.turn.Turn.{Turn}
use Rattle.turn_lock.specs.declared.turn.Turn.TheVariants.{Answer, Ended, NotYet, Busy, Over}

pub answer-turn : (turn : Turn) (value : ℤ) → brief turn ≡ briefs.Answer value → turn ≡ Answer value
answer-turn (Answer answer) value e = let same : answer ≡ value = cc in ap Answer same
answer-turn Ended value e = absurd cc
answer-turn (NotYet at because) value e = absurd cc
answer-turn (Busy holder) value e = absurd cc
answer-turn (Over outcome) value e = absurd cc
