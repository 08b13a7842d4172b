use Rattle.std.proofs.Common.{◌≡◌, ℕ, ◌<◌, ◌≤◌, max, get_or}
use Rattle.hb_race.proofs.clock.join.Given as goal

abbrev pub invariant-loop-u : goal.invariant-loop-u
invariant-loop-u l = record {
  done : (k : ℕ) → k < l.u → get_or l.clock k 0
      ≡ max (get_or l.initial.clock k 0) (get_or l.other k 0);
  rest : (k : ℕ) → l.u ≤ k → get_or l.clock k 0 ≡ get_or l.initial.clock k 0;
}
