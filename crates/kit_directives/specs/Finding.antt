-- A short directive of a failing run (this project).
use Rattle.std.specs.Prelude.{◌≡◌, ◌≢◌, ◌<◌, ℕ, List, length, remove, Option, Some, None}
use Rattle.pct_ask.specs.declared.deal.Deal.{Deal}
use Rattle.pct_ask.specs.declared.verdict.Verdict.{Verdict}
use Rattle.pct_ask.specs.declared.verdict.Verdict.TheVariants.{Passed}
use Rattle.rank_now.specs.declared.moment.Moment.{Moment}
use Rattle.turn_book.specs.Posts.{schedule_of}
use Rattle.trace_text.specs.declared.file.TraceFile.{TraceFile}
use Rattle.choices.specs.Moments.{moments_of}
use Rattle.choices.specs.Orders.{EndsIn}
use Rattle.directive.specs.declared.directive.Directive.{Directive}
use Rattle.kit_runs.specs.Runs.{IsFileOf}
use Rattle.kit_directives.specs.Directed.{IsDirectedFile, LeadsTo}
use Rattle.kit_directives.specs.declared.finding.Finding.{Finding}
use Rattle.kit_directives.specs.declared.finding.Finding.TheVariants.{Fails, Passes}
use Rattle.kit_directives.specs.declared.reducing.ShortMoments.{ShortMoments}

-- a run of the moments has another verdict
pub record HasOther (deal : Deal) (order : List ℕ) (limit : ℕ) (verdict : Verdict)
    (moments : List Moment) : Type 0 where
  pub file : TraceFile
  pub directed : IsDirectedFile deal order moments limit file
  pub apart : file.verdict ≢ verdict

-- Without any one of the first so many moments a run has another verdict.
abbrev pub NeedsFirst : Deal → List ℕ → ℕ → Verdict → List Moment → ℕ → Type 0
NeedsFirst deal order limit verdict moments many =
    (place : ℕ) → place < many → HasOther deal order limit verdict (remove moments place)

-- the second list is the first, or what is left once single items were left out of it
pub data IsLeftOf {X : Type 0} : List X → List X → Type 0 where
  Whole : (items : List X) → IsLeftOf items items
  Without : (items left : List X) (place : ℕ) → place < length left → IsLeftOf items left
      → IsLeftOf items (remove left place)

-- what one round finds: one moment fewer that has the verdict, or that each is needed
abbrev pub Leaves : Deal → List ℕ → ℕ → Verdict → List Moment → Option ShortMoments → Type 0
Leaves deal order limit verdict moments None =
    NeedsFirst deal order limit verdict moments (length moments)
Leaves deal order limit verdict moments (Some short) =
    (place : ℕ) × (place < length moments) × (short.moments ≡ remove moments place)
    × LeadsTo deal order limit verdict short.moments short.steps

-- what all rounds leave
pub record IsReduced (deal : Deal) (order : List ℕ) (limit : ℕ) (verdict : Verdict)
    (moments : List Moment) (short : ShortMoments) : Type 0 where
  pub left : IsLeftOf moments short.moments
  pub leads : LeadsTo deal order limit verdict short.moments short.steps
  pub needed : NeedsFirst deal order limit verdict short.moments (length short.moments)

-- The run by the order and the points was made, and has the directive's verdict, which isn't
-- Passed. The directive's moments are left of those of that run. A run of them has the verdict and
-- so many steps, and without any one of them a run has another verdict. The thread is the order's
-- last.
pub record IsFoundDirective (deal : Deal) (order points : List ℕ) (limit : ℕ)
    (directive : Directive)
    (steps : ℕ) : Type 0 where
  pub made : TraceFile
  pub run : IsFileOf deal order points limit made
  pub verdict : directive.verdict ≡ made.verdict
  pub fails : made.verdict ≢ Passed
  pub low : EndsIn order directive.low
  pub left : IsLeftOf (moments_of (schedule_of made.events) points) directive.events
  pub leads : LeadsTo deal order limit directive.verdict directive.events steps
  pub needed : NeedsFirst deal order limit directive.verdict directive.events
      (length directive.events)

-- the run by the order and the points was made, and has passed, after so many steps
pub record IsPass (deal : Deal) (order points : List ℕ) (limit steps : ℕ) : Type 0 where
  pub made : TraceFile
  pub run : IsFileOf deal order points limit made
  pub passes : made.verdict ≡ Passed
  pub number : steps ≡ length made.events

-- what each answer says
abbrev pub Finds : Deal → List ℕ → List ℕ → ℕ → Finding → Type 0
Finds deal order points limit (Fails directive steps) =
    IsFoundDirective deal order points limit directive steps
Finds deal order points limit (Passes steps) = IsPass deal order points limit steps
