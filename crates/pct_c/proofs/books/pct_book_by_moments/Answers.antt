-- What was made is kept.
use Rattle.std.proofs.Common.{length}
use Rattle.std.specs.Prelude.{map}
use Rattle.policy_pick.specs.Plan.{ByMoments}
use Rattle.c_values.specs.Moments.{moment_said}
use Rattle.pct_c.specs.Makers.{MayOrder, IsMade}
use Rattle.pct_c.proofs.Making.{kept}
use Rattle.pct_c.proofs.books.pct_book_by_moments.Goals as goal

pub returns : goal.returns
returns c =
    let deal = c.args.deal.now in
    let vars = c.args.variables.now in
    let sems = c.args.semaphores.now in
    let barriers = c.args.barriers.now in
    kept c.made_by_moments-made.result c.keep.result c.args.book.now.held.value
    c.keep.new.handle.held.value
    (MayOrder deal vars sems barriers c.args.order.now (length c.args.moments.now) c.args.limit)
    (IsMade deal vars sems barriers c.args.limit
    (ByMoments c.args.order.now (map moment_said c.args.moments.now)))
    c.made_by_moments-made.ensures c.keep.ensures.done c.keep.ensures.bad c.keep.ensures.statuses
    c.keep.ensures.stays
