-- What certifying a directive of a program answers (this project).
use Rattle.std.specs.Prelude.{◌≡◌, ◌≢◌, ◌<◌, ◌≤◌, ◌*◌, ◌-◌, ◌^◌, ℕ, List, length, slice_get, Some}
use Rattle.pct_ask.specs.declared.deal.Deal.{Deal}
use Rattle.pct_ask.specs.declared.verdict.Verdict.{Verdict}
use Rattle.turn_book.specs.Posts.{schedule_of}
use Rattle.trace_text.specs.declared.file.TraceFile.{TraceFile}
use Rattle.choices.specs.Orders.{factorial, low_orders}
use Rattle.choices.specs.Points.{points_of}
use Rattle.directive.specs.declared.directive.Directive.{Directive}
use Rattle.directive_run.specs.declared.answers.CertifyRow.{CertifyRow}
use Rattle.directive_run.specs.declared.answers.Certified.{Certified}
use Rattle.directive_run.specs.declared.answers.Certified.TheVariants.{Yes, Refuted, TooLong}
use Rattle.directive_run.specs.declared.answers.Certified.TheVariants.{TooManyThreads}
use Rattle.kit_directives.specs.Directed.{IsDirectedFile}
use Rattle.kit_directives.specs.declared.judging.Judged.{Judged}
use Rattle.kit_directives.specs.declared.judging.Judged.TheVariants.{Led, Other}
use Rattle.pct_ask.specs.declared.limits.TheConstants.{MAX_CERTIFIED_THREADS}

-- the order stands at the place, from 0, among those that place the directive's thread last
abbrev pub IsOrderAt : Deal → Directive → ℕ → List ℕ → Type 0
IsOrderAt deal directive place order =
    slice_get (low_orders deal.threads directive.low) place ≡ Some order

-- A run of the order by the directive's moments was made. It has the directive's verdict and at
-- most so many steps, and the row has the order and the points that stand for the moments in it.
pub record IsLedRow (deal : Deal) (directive : Directive) (steps limit : ℕ) (order : List ℕ)
    (row : CertifyRow) : Type 0 where
  pub file : TraceFile
  pub directed : IsDirectedFile deal order directive.events limit file
  pub verdict : file.verdict ≡ directive.verdict
  pub short : length file.events ≤ steps
  pub order_is : row.order ≡ order
  pub points_are : row.points ≡ points_of (schedule_of file.events) steps directive.events

-- that is so of the order at the place
abbrev pub IsLedAt : Deal → Directive → ℕ → ℕ → ℕ → CertifyRow → Type 0
IsLedAt deal directive steps limit place row =
    (order : List ℕ) × IsOrderAt deal directive place order
    × IsLedRow deal directive steps limit order row

-- there is such a row for each of the first so many orders
pub record AreRowsOfOrders (deal : Deal) (directive : Directive) (steps limit many : ℕ)
    (rows : List CertifyRow) : Type 0 where
  pub all : length rows ≡ many
  pub each : (place : ℕ) (row : CertifyRow) → slice_get rows place ≡ Some row
      → IsLedAt deal directive steps limit place row

-- the run of the order by the directive's moments has this other verdict, and at most so many steps
pub record IsRefutedBy (deal : Deal) (directive : Directive) (steps limit : ℕ) (order : List ℕ)
    (verdict : Verdict) : Type 0 where
  pub file : TraceFile
  pub directed : IsDirectedFile deal order directive.events limit file
  pub verdict_is : file.verdict ≡ verdict
  pub short : length file.events ≤ steps
  pub apart : verdict ≢ directive.verdict

-- it has this number of steps, more than there may be
pub record IsTooLongBy (deal : Deal) (directive : Directive) (steps limit : ℕ) (order : List ℕ)
    (many : ℕ) : Type 0 where
  pub file : TraceFile
  pub directed : IsDirectedFile deal order directive.events limit file
  pub number : many ≡ length file.events
  pub long : steps < many

-- what an answer says of an order that isn't led to the verdict
abbrev pub SaysOther : Deal → Directive → ℕ → ℕ → List ℕ → Certified → Type 0
SaysOther deal directive steps limit order (Yes bound rows) = ⊥
SaysOther deal directive steps limit order (Refuted other verdict) =
    (other ≡ order) × IsRefutedBy deal directive steps limit order verdict
SaysOther deal directive steps limit order (TooLong other many) =
    (other ≡ order) × IsTooLongBy deal directive steps limit order many
SaysOther deal directive steps limit order (TooManyThreads threads) = ⊥

-- what is said of an order
abbrev pub Judges : Deal → Directive → ℕ → ℕ → List ℕ → Judged → Type 0
Judges deal directive steps limit order (Led row) = IsLedRow deal directive steps limit order row
Judges deal directive steps limit order (Other certified) =
    SaysOther deal directive steps limit order certified

-- that is said of the order at a place
abbrev pub JudgesAt : Deal → Directive → ℕ → ℕ → ℕ → Judged → Type 0
JudgesAt deal directive steps limit place judged =
    (order : List ℕ) × IsOrderAt deal directive place order
    × Judges deal directive steps limit order judged

-- there is a row for each order that places the thread last, and the bound is n k^m
pub record IsCertified (deal : Deal) (directive : Directive) (steps limit bound : ℕ)
    (rows : List CertifyRow) : Type 0 where
  pub few : deal.threads ≤ MAX_CERTIFIED_THREADS
  pub bound_is : bound ≡ deal.threads * steps ^ length directive.events
  pub rows_are : AreRowsOfOrders deal directive steps limit (factorial (deal.threads - 1)) rows

-- The answer is of the order at some place, and those before it are led to the verdict.
pub record IsFirstOther (deal : Deal) (directive : Directive) (steps limit : ℕ)
    (certified : Certified) : Type 0 where
  pub few : deal.threads ≤ MAX_CERTIFIED_THREADS
  pub rows : List CertifyRow
  pub before : AreRowsOfOrders deal directive steps limit (length rows) rows
  pub order : List ℕ
  pub at : IsOrderAt deal directive (length rows) order
  pub says : SaysOther deal directive steps limit order certified

-- What each answer says: each order is led to the verdict; or this one is the first that isn't; or
-- there are more than 7 threads.
abbrev pub Certifies : Deal → Directive → ℕ → ℕ → Certified → Type 0
Certifies deal directive steps limit (Yes bound rows) =
    IsCertified deal directive steps limit bound rows
Certifies deal directive steps limit (Refuted order verdict) =
    IsFirstOther deal directive steps limit (Refuted order verdict)
Certifies deal directive steps limit (TooLong order many) =
    IsFirstOther deal directive steps limit (TooLong order many)
Certifies deal directive steps limit (TooManyThreads threads) =
    (threads ≡ deal.threads) × (MAX_CERTIFIED_THREADS < threads)
