use Rattle.std.proofs.Common.{◌≡◌}
use Rattle.script_run.specs.Batches.{IsSetFor}
use Rattle.script_run.proofs.alone.run_alone.Given as goal

-- the runs before the place are taken; the book is of the batch's runs, and before the first of
-- them it is set for it
abbrev pub invariant-loop-place : goal.invariant-loop-place
invariant-loop-place g l =
    let common = g.T.Batch.common l.batch in
    let is_run = g.T.Batch.is_run l.batch l.start in
    record {
      stands : g.T.Batch.stands l.batch l.kept l.place;
      deal : l.book.deal ≡ common.deal;
      limit : l.book.limit ≡ common.limit;
      set : l.place ≡ l.start → IsSetFor common is_run l.book;
    }
