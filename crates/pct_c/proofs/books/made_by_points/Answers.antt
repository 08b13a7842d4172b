-- The deal is the one that the numbers say, and the order is one or none.
use Rattle.std.proofs.Common.{◌≡◌, subst, Option, length}
use Rattle.std.specs.Prelude.{IfSome, Result, IfOk}
use Rattle.pct_ask.specs.declared.deal.Deal.{Deal}
use Rattle.policy_pick.specs.Plan.{ByPoints}
use Rattle.rank_now.specs.declared.order.RankError.{RankError}
use Rattle.c_values.specs.Deals.{SaysDeal}
use Rattle.turn_book.specs.Told.{new_book}
use Rattle.pct_c.specs.declared.book.Book.{Book}
use Rattle.pct_c.specs.Books.{state_of}
use Rattle.pct_c.specs.Makers.{MayOrder, IsMade}
use Rattle.pct_c.proofs.Making.{wrong_is_no_order, ordered}
use Rattle.pct_c.proofs.books.made_by_points.Goals as goal

pub returns-else-order-deal : goal.returns-else-order-deal
returns-else-order-deal c =
    let counts = c.args.counts.now in
    let vars = c.args.vars.now in
    let sems = c.args.sems.now in
    let barriers = c.args.barriers.now in
    let says = subst (λ (deal : Option Deal). IfSome deal (SaysDeal counts vars sems barriers))
    c.in-Some.is c.in_ok-deal.ensures.deal in
    ordered c.of_order.result c.by_points.result
    (MayOrder counts vars sems barriers c.args.order.now (length c.args.points.now) c.args.limit
    → ⊥)
    (IsMade counts vars sems barriers c.args.limit (ByPoints c.args.order.now c.args.points.now))
    c.of_order.ensures.made c.of_order.ensures.bad
    (λ book is. (
      c.in-Some.deal,
      says,
      subst (λ (r : Result Book RankError). IfOk r (λ b. state_of b
          ≡ new_book c.in-Some.deal c.args.limit (ByPoints c.args.order.now c.args.points.now))) is
          c.by_points.ensures.made,
    ))
    (λ at is may. wrong_is_no_order c.args.order.now at (c.by_points.ensures.not_an_order at is)
    may.order)
