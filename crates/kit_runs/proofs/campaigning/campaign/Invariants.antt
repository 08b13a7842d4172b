use Rattle.std.proofs.Common.{◌≡◌, vec_len}
use Rattle.std.specs.Prelude.{vec_capacity}
use Rattle.kit_runs.specs.Rows.{AreRowsOf}
use Rattle.kit_runs.proofs.campaigning.campaign.Given as goal

abbrev pub invariant-loop-place : goal.invariant-loop-place
invariant-loop-place g l = record {
  rows : AreRowsOf l.deal l.seeds l.place l.rows.items;
  long : vec_len l.rows ≡ l.place;
  room : vec_capacity l.rows ≡ l.seeds.count;
}
