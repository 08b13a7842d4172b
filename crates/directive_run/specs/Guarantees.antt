-- What a directive guarantees (the directed scheduler of the PCT paper; the definition is this
-- project's).
use Rattle.std.specs.Prelude.{◌≡◌, ℕ, ◌≤◌, List, length, Some}
use Rattle.pct_ask.specs.declared.Deal.{Deal}
use Rattle.pct_ask.specs.declared.event.Event.{Event}
use Rattle.pct_ask.specs.declared.verdict.Verdict.{Verdict}
use Rattle.pct_ask.specs.Bodies.{Pending}
use Rattle.rank_now.specs.declared.moment.Moment.{Moment}
use Rattle.rank_now.specs.Order.{IsOrder}
use Rattle.worker_run.specs.Run.{directed_run}
use Rattle.choices.specs.Orders.{EndsIn}

-- the directed run of the order has the verdict and at most so many steps
pub record IsLed (deal : Deal) (bodies : List Pending) (order : List ℕ) (moments : List Moment)
    (verdict : Verdict) (steps limit : ℕ) : Type 0 where
  pub made : List Event
  pub directed_is : directed_run deal bodies order moments limit ≡ Some (made, verdict)
  pub short : length made ≤ steps

-- Every order that places the thread last is led to the verdict, within so many steps.
abbrev pub Guarantees : Deal → List Pending → ℕ → List Moment → Verdict → ℕ → ℕ → Type 0
Guarantees deal bodies low moments verdict steps limit =
    (order : List ℕ) → IsOrder order → length order ≡ deal.threads → EndsIn order low
    → IsLed deal bodies order moments verdict steps limit
