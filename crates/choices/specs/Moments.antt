-- The moments of a run by an order and change points (this project).
use Rattle.std.specs.Prelude.{ℕ, ◌-◌, ◌<◌, ◌≤◌, ◌==◌, ◌&&◌, Bool, not, nat_le, if◌then◌else◌, List}
use Rattle.std.specs.Prelude.{[], ◌∷◌, length, slice_index}
use Rattle.std.specs.List.{list_any}
use Rattle.rank_now.specs.declared.moment.Moment.{Moment}
use Rattle.rank_now.specs.Rank.{own_steps}

-- the moment of a step, counted from 1: its thread, and how many steps the thread took up to it
abbrev pub moment_at : List ℕ → ℕ → Moment
moment_at schedule step =
    let thread = slice_index schedule (step - 1) in
    record { thread = thread; number = own_steps schedule thread step }

-- whether the point is a step of the schedule, and no later point is the same
abbrev pub is_kept : List ℕ → ℕ → List ℕ → Bool
is_kept schedule point later =
    nat_le point (length schedule) && not (list_any (λ other. other == point) later)

-- The moments of the points that are kept, in the points' order.
abbrev pub moments_of : List ℕ → List ℕ → List Moment
moments_of schedule [] = []
moments_of schedule (point ∷ later) =
    if is_kept schedule point later
    then moment_at schedule point ∷ moments_of schedule later
    else moments_of schedule later

-- The moment's thread is one of so many, and its number is one of 1..steps.
pub record MomentFits (threads steps : ℕ) (moment : Moment) : Type 0 where
  pub thread : moment.thread < threads
  pub some : 1 ≤ moment.number
  pub few : moment.number ≤ steps
