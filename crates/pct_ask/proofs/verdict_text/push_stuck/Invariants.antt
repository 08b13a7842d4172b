-- The places of the threads that were passed are written.
use Rattle.std.proofs.Common.{◌≡◌, ◌<◌, ◌++◌}
use Rattle.std.specs.Prelude.{codes}
use Rattle.std.specs.List.{flat_map}
use Rattle.pct_ask.specs.Places.{AreRising}
use Rattle.pct_ask.specs.VerdictPieces.{place_piece}
use Rattle.pct_ask.proofs.PieceLemmas.{places_below}
use Rattle.pct_ask.proofs.verdict_text.push_stuck.Given as goal

abbrev pub invariant-loop-thread : goal.invariant-loop-thread
invariant-loop-thread l = record {
  written : l.out.items ≡ l.fn.out.items ++ codes "stuck"
      ++ flat_map (place_piece l.names) (places_below l.thread l.blocked);
  rising : 0 < l.thread → AreRising l.blocked;
}
