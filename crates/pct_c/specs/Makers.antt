-- What makes a book (this project).
use Rattle.std.specs.Prelude.{◌≡◌, ◌≢◌, ◌≤◌, ◌<◌, ◌⊎◌, ℕ, ℤ, List, length, All, Option, Some}
use Rattle.rank_now.specs.Order.{IsOrder}
use Rattle.pct_ask.specs.declared.deal.Deal.{Deal}
use Rattle.policy_pick.specs.Plan.{Plan}
use Rattle.c_values.specs.declared.deal.PctDeal.{PctDeal}
use Rattle.c_values.specs.Deals.{SaysDeal, AreLawfulCounts}
use Rattle.turn_book.specs.Told.{new_book}
use Rattle.pct_c.specs.declared.book.Book.{Book}
use Rattle.pct_c.specs.declared.kept.Kept.{Kept}
use Rattle.pct_c.specs.declared.kept.Kept.TheVariants.{Book as OfBook}
use Rattle.pct_c.specs.Books.{state_of}
use Rattle.pct_ask.specs.declared.limits.TheConstants.{MAX_POINTS, MAX_STEPS}

-- a number of steps: a limit
abbrev pub IsLimit : ℕ → Type 0
IsLimit limit = (1 ≤ limit) × (limit ≤ MAX_STEPS)

-- What a book is made of is in range: the deal, the limit, at most 7 change points or moments, and
-- an
-- order of all threads.
pub record MayOrder (counts : PctDeal) (of_vars of_sems of_barriers : List ℤ) (by_order : List ℕ)
    (lowered of_limit : ℕ) : Type 0 where
  pub lawful : AreLawfulCounts counts of_vars of_sems of_barriers
  pub limit : IsLimit of_limit
  pub few : lowered ≤ MAX_POINTS
  pub whole : length by_order ≡ counts.threads
  pub order : IsOrder by_order

-- the same of a list of threads, each of the deal
pub record MayList (counts : PctDeal) (of_vars of_sems of_barriers : List ℤ) (by_list : List ℕ)
    (of_limit : ℕ) : Type 0 where
  pub lawful : AreLawfulCounts counts of_vars of_sems of_barriers
  pub limit : IsLimit of_limit
  pub threads : All (λ thread. thread < counts.threads) by_list

-- the book is the new one of the deal that the numbers say, of this limit and plan
abbrev pub IsMade : PctDeal → List ℤ → List ℤ → List ℤ → ℕ → Plan → Book → Type 0
IsMade counts vars sems barriers limit plan book = (deal : Deal)
    × SaysDeal counts vars sems barriers deal × (state_of book ≡ new_book deal limit plan)

-- Done where a book may be made, and then the handle has it. Bad where it may not. With bad and
-- with
-- no memory the handle has what it had.
pub record Makes (May : Type 0) (Made : Book → Type 0) (status : ℕ) (old new : Option Kept)
    : Type 0 where
  pub done : status ≡ 0 → (book : Book) × (new ≡ Some (OfBook book)) × Made book
  pub bad : status ≡ 5 → ¬ May
  pub statuses : (status ≡ 0) ⊎ ((status ≡ 5) ⊎ (status ≡ 6))
  pub stays : status ≢ 0 → new ≡ old
