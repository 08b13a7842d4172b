-- What was made is kept.
use Rattle.policy_pick.specs.Plan.{ByList}
use Rattle.pct_c.specs.Makers.{MayList, IsMade}
use Rattle.pct_c.proofs.Making.{kept}
use Rattle.pct_c.proofs.books.pct_book_by_list.Goals as goal

pub returns : goal.returns
returns c =
    let deal = c.args.deal.now in
    let vars = c.args.variables.now in
    let sems = c.args.semaphores.now in
    let barriers = c.args.barriers.now in
    kept c.made_by_list-made.result c.keep.result c.args.book.now.held.value
    c.keep.new.handle.held.value
    (MayList deal vars sems barriers c.args.threads.now c.args.limit)
    (IsMade deal vars sems barriers c.args.limit (ByList c.args.threads.now))
    c.made_by_list-made.ensures c.keep.ensures.done c.keep.ensures.bad c.keep.ensures.statuses
    c.keep.ensures.stays
