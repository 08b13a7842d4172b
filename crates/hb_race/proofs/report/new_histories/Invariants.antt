use Rattle.std.proofs.Common.{◌≡◌, ℕ, ◌<◌, length, get_or}
use Rattle.hb_race.specs.Lasts.{new_history, no_history}
use Rattle.hb_race.proofs.report.new_histories.Given as goal

abbrev pub invariant-loop-var : goal.invariant-loop-var
invariant-loop-var l = record {
  long : length l.histories.items ≡ l._var;
  fresh : (x : ℕ) → x < l._var → get_or l.histories.items x no_history ≡ new_history;
}
