-- The table, the counts and the histories are those of the steps that were taken.
use Rattle.std.proofs.Common.{◌≡◌, ◌+◌, suc, length, subst, arith, refl}
use Rattle.hb_race.specs.Table.{steps_of, IsTable}
use Rattle.hb_race.specs.Histories.{AreHistories}
use Rattle.hb_race.proofs.Runs.{zeros}
use Rattle.hb_race.proofs.Steps.{step-at, counts-few, begins, histories-begin, thread-low}
use Rattle.hb_race.proofs.report.follow.Goals as goal

pub loop-k-init : goal.loop-k-init
loop-k-init c = record {
  table =
      begins (steps_of c.args.events.now) c.args.table.now _ c.requires.rows c.requires.empty
      (zeros 64);
  histories = histories-begin c.args.events.now c.args.histories.now c.requires.fresh;
}

pub advance-clock-requires-clause-few : goal.advance-clock-requires-clause-few
advance-clock-requires-clause-few c =
    counts-few (steps_of c.args.events.now) c.loop-k.k c.loop-k.table c.loop-k.counts
    c.loop-k.invariant.table (let few = c.requires.few in let low = c.loop-k-test.true in
    omega arith)

pub loop-k-preserved : goal.loop-k-preserved
loop-k-preserved c =
    let events = c.args.events.now in
    let k = c.loop-k.k in
    let next : suc k ≡ k + 1 = omega arith in
    record {
      table =
          subst (λ n. IsTable (steps_of events) n c.advance-clock.new.table
          c.advance-clock.new.counts) next
          (c.advance-clock.ensures.table (steps_of events) k (step-at events k)
          c.loop-k.invariant.table);
      histories = subst (λ n. AreHistories events n c.note.new.histories) next
          (c.note.ensures.noted events k (record {
            within = c.loop-k-test.true;
            accesses = c.access_of.ensures;
            number = refl;
            own_step = refl;
            threads = thread-low events (length c.args.histories.now) c.requires.in_range;
            stamped =
                c.advance-clock.ensures.stamp (steps_of events) k (step-at events k)
                c.loop-k.invariant.table;
          }) c.loop-k.invariant.histories);
    }

pub returns : goal.returns
returns c =
    let at : c.loop-k.k ≡ length c.args.events.now =
    (let past = c.loop-k-test.false in let end = c.loop-k.auto.k-end in omega arith) in
    subst (λ n. AreHistories c.args.events.now n c.loop-k.histories) at c.loop-k.invariant.histories
