use Rattle.hb_race.specs.Table.{steps_of, IsTable}
use Rattle.hb_race.specs.Histories.{AreHistories}
use Rattle.hb_race.proofs.report.follow.Given as goal

abbrev pub invariant-loop-k : goal.invariant-loop-k
invariant-loop-k l = record {
  table : IsTable (steps_of l.events) l.k l.table l.counts;
  histories : AreHistories l.events l.k l.histories;
}
