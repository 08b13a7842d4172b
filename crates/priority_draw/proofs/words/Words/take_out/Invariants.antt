use Rattle.std.proofs.Common.{◌≡◌, ◌*◌, length}
use Rattle.priority_draw.specs.Words.{words_later}
use Rattle.priority_draw.proofs.DrawLemmas.{IsDrawnSoFar}
use Rattle.priority_draw.proofs.words.Words.take_out.Given as goal

abbrev pub invariant-loop-taken : goal.invariant-loop-taken
invariant-loop-taken l = record {
  words : l.self ≡ words_later l.fn.self (2 * l.taken);
  order : IsDrawnSoFar l.fn.self.seed l.fn.self.place (length l.fn.threads) l.taken l.threads;
}
