use Rattle.std.proofs.Common.{◌≡◌, ℕ, ◌+◌, ◌*◌, ◌<◌, get_or}
use Rattle.priority_draw.specs.Words.{words_later}
use Rattle.priority_draw.specs.Drawing.{draw}
use Rattle.priority_draw.proofs.words.Words.fill.Given as goal

abbrev pub invariant-loop-point : goal.invariant-loop-point
invariant-loop-point l = record {
  words : l.self ≡ words_later l.fn.self (2 * l.point-index);
  points : (i : ℕ) → i < l.point-index
      → get_or l.points i 0 ≡ 1 + draw l.fn.self.seed (l.fn.self.place + 2 * i) l.steps;
}
