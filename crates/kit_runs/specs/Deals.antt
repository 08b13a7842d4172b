-- Deals of variables, mutexes and conditions (this project).
use Rattle.std.specs.Prelude.{◌≡◌, ℕ, ℤ, List, []}
use Rattle.pct_ask.specs.declared.deal.Deal.{Deal}

-- there are so many of each, and nothing else
pub record IsSmallDeal (threads : ℕ) (vars : List ℤ) (mutexes conds : ℕ)
    (deal : Deal) : Type 0 where
  pub threads_is : deal.threads ≡ threads
  pub vars_is : deal.vars ≡ vars
  pub mutexes_is : deal.mutexes ≡ mutexes
  pub conds_is : deal.conds ≡ conds
  pub no_sems : deal.sems ≡ []
  pub no_barriers : deal.barriers ≡ []
  pub no_rwlocks : deal.rwlocks ≡ 0
