use Rattle.std.proofs.Common.{◌≡◌, ◌≤◌, ◌<◌, ◌-◌, vec_len}
use Rattle.std.specs.Prelude.{All, vec_capacity}
use Rattle.sweep.specs.Batches.{setup_of_sweep, AreAhead}
use Rattle.sweep.proofs.ahead.choices_ahead.Given as goal

-- what comes next up to the end, and room for more
abbrev pub invariant-choices : goal.invariant-choices
invariant-choices l = record {
  room : vec_capacity l.places ≡ l.most;
  few : vec_len l.places ≤ l.most;
  within : All (λ place. place < l.sweep.choices) l.places.items;
  end : l.end ≤ l.sweep.choices;
  from : l.reach.place ≤ l.end;
  begins : l.reach.place ≡ l.end → vec_len l.places ≡ 0;
  ahead :
      AreAhead (setup_of_sweep l.sweep) l.reach.longest l.reach.place l.places.items l.end;
}

abbrev pub decreases-choices : goal.decreases-choices
decreases-choices l = l.sweep.choices - l.end
