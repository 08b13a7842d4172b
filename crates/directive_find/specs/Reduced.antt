-- Moments from which those that a verdict doesn't need are left out (this project).
use Rattle.std.specs.Prelude.{◌≡◌, ℕ, ◌<◌, List, length, remove, Option, Some, None}
use Rattle.pct_ask.specs.declared.Deal.{Deal}
use Rattle.pct_ask.specs.declared.event.Event.{Event}
use Rattle.pct_ask.specs.declared.verdict.Verdict.{Verdict}
use Rattle.pct_ask.specs.Bodies.{Pending}
use Rattle.rank_now.specs.declared.moment.Moment.{Moment}
use Rattle.worker_run.specs.Run.{directed_run}
use Rattle.directive_find.specs.declared.short.Short.{Short}

-- the directed run of the moments has the verdict
abbrev pub HasVerdict : Deal → List Pending → List ℕ → ℕ → Verdict → List Moment → Type 0
HasVerdict deal bodies order limit verdict moments =
    (made : List Event) × (directed_run deal bodies order moments limit ≡ Some (made, verdict))

-- it has the verdict and so many steps
pub record LeadsTo (deal : Deal) (bodies : List Pending) (order : List ℕ) (limit : ℕ)
    (verdict : Verdict) (moments : List Moment) (steps : ℕ) : Type 0 where
  pub made : List Event
  pub is_directed : directed_run deal bodies order moments limit ≡ Some (made, verdict)
  pub number : steps ≡ length made

-- None of the list's first so many items can be left out: without any one of them it doesn't hold.
abbrev pub NeedsFirst : {X : Type 0} → (List X → Type 0) → List X → ℕ → Type 0
NeedsFirst Holds items many =
    (place : ℕ) → place < many → Holds (remove items place) → ⊥

-- The item at the place is the first that can be left out.
pub record IsFirstToLeaveOut {X : Type 0} (Holds : List X → Type 0) (items : List X) (place : ℕ)
    : Type 0 where
  pub within : place < length items
  pub holds : Holds (remove items place)
  pub before : NeedsFirst Holds items place

-- The first item that can be left out is, and again so, until there is none: then the list itself
-- is left.
pub data Reduces {X : Type 0} (Holds : List X → Type 0) : List X → List X → Type 0 where
  Stays : (items : List X) → NeedsFirst Holds items (length items) → Reduces Holds items items
  Drops : (items left : List X) (place : ℕ) → IsFirstToLeaveOut Holds items place
      → Reduces Holds (remove items place) left → Reduces Holds items left

-- What one round finds: the moments without the first that can be left out, and the steps of their
-- directed run, or that each is needed.
abbrev pub Leaves : Deal → List Pending → List ℕ → ℕ → Verdict → List Moment → Option Short → Type 0
Leaves deal bodies order limit verdict moments None =
    NeedsFirst (HasVerdict deal bodies order limit verdict) moments (length moments)
Leaves deal bodies order limit verdict moments (Some short) =
    (place : ℕ) × IsFirstToLeaveOut (HasVerdict deal bodies order limit verdict) moments place
    × (short.moments ≡ remove moments place)
    × LeadsTo deal bodies order limit verdict short.moments short.steps

-- What all rounds leave, with the steps of its directed run.
pub record IsReduced (deal : Deal) (bodies : List Pending) (order : List ℕ) (limit : ℕ)
    (verdict : Verdict) (moments : List Moment) (short : Short) : Type 0 where
  pub reduced : Reduces (HasVerdict deal bodies order limit verdict) moments short.moments
  pub leads : LeadsTo deal bodies order limit verdict short.moments short.steps
