-- One more row of zeros.
use Rattle.std.proofs.Common.{ap, ◌∙◌, arith}
use Rattle.std.proofs.lemmas.Grind.{common_steps}
use Rattle.hb_race.specs.Table.{clock_entry}
use Rattle.hb_race.proofs.Runs.{pushed}
use Rattle.hb_race.proofs.report.new_table.Goals as goal

pub loop-row-preserved : goal.loop-row-preserved
loop-row-preserved c = record {
  long = grind (arith, common_steps, c.in_ok-push.ensures, c.loop-row.invariant.long);
  zero =
      λ row u. ap (λ t. clock_entry t row u) c.in_ok-push.ensures.items
      ∙ pushed c.loop-row.table.items c.loop-row.invariant.zero row u;
}
