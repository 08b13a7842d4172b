-- What is left to read gives the answer, after the places that were read.
use Rattle.std.proofs.Common.{◌≡◌, ◌<◌, ◌≤◌, ℕ, false, []}
use Rattle.std.specs.List.{All}
use Rattle.pct_ask.specs.VerdictWords.{words_of, words_after, length_with_space, stuck_words}
use Rattle.pct_ask.proofs.verdict_words.read_stuck.Given as goal

abbrev pub invariant-places : goal.invariant-places
invariant-places l = record {
  same : stuck_words l.names l.least l.blocked l.unknown (words_after l.rest)
      ≡ stuck_words l.names 0 [] false (words_of l.fn.text);
  below : All (λ (place : ℕ × ℕ). place.0 < l.least) l.blocked;
  few : l.least ≤ 64;
}

abbrev pub decreases-places : goal.decreases-places
decreases-places l = length_with_space l.rest
