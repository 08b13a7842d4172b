-- A run's deal and steps, as numbers (this project).
use Rattle.std.specs.Prelude.{ℤ, List, All}
use Rattle.pct_ask.specs.declared.deal.Deal.{Deal}
use Rattle.pct_ask.specs.declared.event.Event.{Event}
use Rattle.pct_ask.specs.Objects.{sizes_of_deal, EventIsInRange}
use Rattle.c_values.specs.declared.deal.PctDeal.{PctDeal}
use Rattle.c_values.specs.declared.event.PctEvent.{PctEvent}
use Rattle.c_values.specs.Deals.{SaysDeal}
use Rattle.c_values.specs.Events.{AreSteps}

-- the numbers say this deal and these steps, and the steps name only what the deal has
pub record SayRun (counts : PctDeal) (vars sems barriers : List ℤ) (steps : List PctEvent)
    (deal : Deal) (events : List Event) : Type 0 where
  pub says : SaysDeal counts vars sems barriers deal
  pub run : AreSteps steps events
  pub in_range : All (EventIsInRange (sizes_of_deal deal)) events
