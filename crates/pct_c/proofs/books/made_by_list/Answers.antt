-- The deal is the one that the numbers say.
use Rattle.std.proofs.Common.{subst, Option}
use Rattle.std.specs.Prelude.{IfSome}
use Rattle.pct_ask.specs.declared.deal.Deal.{Deal}
use Rattle.c_values.specs.Deals.{SaysDeal}
use Rattle.pct_c.proofs.books.made_by_list.Goals as goal

pub returns-in_ok-by_list-in-Some : goal.returns-in_ok-by_list-in-Some
returns-in_ok-by_list-in-Some c = (
  c.in-Some.deal,
  subst (λ (deal : Option Deal). IfSome deal (SaysDeal c.args.counts.now c.args.vars.now
      c.args.sems.now c.args.barriers.now)) c.in-Some.is c.in_ok-deal.ensures.deal,
  c.in_ok-by_list-in-Some.ensures.made,
)
