-- The deal is the one that the numbers say, and the order is one or none.
use Rattle.std.proofs.Common.{◌≡◌, ◌∙◌, subst, Option, length}
use Rattle.std.specs.Prelude.{IfSome, Result, IfOk, map}
use Rattle.std.proofs.Common.{List}
use Rattle.rank_now.specs.declared.moment.Moment.{Moment}
use Rattle.pct_ask.specs.declared.deal.Deal.{Deal}
use Rattle.policy_pick.specs.Plan.{ByMoments}
use Rattle.rank_now.specs.declared.order.RankError.{RankError}
use Rattle.c_values.specs.Deals.{SaysDeal}
use Rattle.c_values.specs.Moments.{moment_said}
use Rattle.turn_book.specs.Told.{new_book}
use Rattle.pct_c.specs.declared.book.Book.{Book}
use Rattle.pct_c.specs.Books.{state_of}
use Rattle.pct_c.specs.Makers.{MayOrder, IsMade}
use Rattle.pct_c.proofs.Making.{wrong_is_no_order, ordered}
use Rattle.pct_c.proofs.books.made_by_moments.Goals as goal

pub returns-in_ok-own-in-Some : goal.returns-in_ok-own-in-Some
returns-in_ok-own-in-Some c =
    let counts = c.args.counts.now in
    let vars = c.args.vars.now in
    let sems = c.args.sems.now in
    let barriers = c.args.barriers.now in
    let own = c.as_slice.ensures.value ∙ c.in_ok-own-in-Some.ensures in
    let made = subst (λ (l : List Moment). IfOk c.by_moments-made.result (λ b. state_of b
    ≡ new_book c.in-Some.deal c.args.limit (ByMoments c.args.order.now l))) own
    c.by_moments-made.ensures.made in
    let says = subst (λ (deal : Option Deal). IfSome deal (SaysDeal counts vars sems barriers))
    c.in-Some.is c.in_ok-deal.ensures.deal in
    ordered c.of_order.result c.by_moments-made.result
    (MayOrder counts vars sems barriers c.args.order.now (length c.args.moments.now) c.args.limit
    → ⊥)
    (IsMade counts vars sems barriers c.args.limit
    (ByMoments c.args.order.now (map moment_said c.args.moments.now)))
    c.of_order.ensures.made c.of_order.ensures.bad
    (λ book is. (
      c.in-Some.deal,
      says,
      subst (λ (r : Result Book RankError). IfOk r (λ b. state_of b ≡ new_book c.in-Some.deal
          c.args.limit (ByMoments c.args.order.now (map moment_said c.args.moments.now)))) is made,
    ))
    (λ at is may. wrong_is_no_order c.args.order.now at
    (c.by_moments-made.ensures.not_an_order at is)
    may.order)
