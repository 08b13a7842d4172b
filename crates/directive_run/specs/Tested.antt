-- What is made of the orders that are tried for a certificate: their runs, what each leads to, and
-- the rows so far (this project). Nothing here is needed to read a public contract.
use Rattle.std.specs.Prelude.{◌≡◌, ◌≢◌, ℕ, ◌≤◌, List, length, take, slice_get}
use Rattle.std.specs.Prelude.{Option, Some}
use Rattle.pct_ask.specs.declared.Deal.{Deal}
use Rattle.pct_ask.specs.declared.event.Event.{Event}
use Rattle.pct_ask.specs.declared.verdict.Verdict.{Verdict}
use Rattle.pct_ask.specs.Bodies.{Pending}
use Rattle.rank_now.specs.declared.moment.Moment.{Moment}
use Rattle.script_code.specs.Listing.{listing}
use Rattle.worker_run.specs.Run.{Run, directed_run}
use Rattle.worker_run.specs.Played.{IsRun}
use Rattle.worker_run.specs.declared.played.Played.{Played}
use Rattle.script_run.specs.Ready.{bodies_of_code}
use Rattle.script_run.specs.Batches.{Common}
use Rattle.directive.specs.declared.directive.Directive.{Directive}
use Rattle.directive_run.specs.Exposing.{RunsTooLong}
use Rattle.choices.specs.Orders.{low_orders}
use Rattle.directive_run.specs.Certifying.{IsPointed, AreOrderRows}
use Rattle.directive_run.specs.declared.answers.CertifyRow.{CertifyRow}
use Rattle.directive_run.specs.declared.claim.Claim.{Claim}
use Rattle.directive_run.specs.declared.judging.Tested.{Tested}
use Rattle.directive_run.specs.declared.judging.Tested.TheVariants.{Led, Other, TooLong}

-- what the directed runs of a directive have in common: what the threads share, their bodies, the
-- directive, within how many steps it is to lead to its verdict, and the limit
pub record DirectedSetup : Type 0 where
  pub deal : Deal
  pub bodies : List Pending
  pub directive : Directive
  pub steps : ℕ
  pub limit : ℕ

-- the directed run of an order
abbrev pub run_of_order : DirectedSetup → List ℕ → Option Run
run_of_order setup order =
    directed_run setup.deal setup.bodies order setup.directive.events setup.limit

-- what a claim's runs have in common
abbrev pub directed_setup : Claim → DirectedSetup
directed_setup claim = record {
  deal = claim.script.deal.now;
  bodies = bodies_of_code (listing claim.script.code.now);
  directive = claim.directive.now;
  steps = claim.steps;
  limit = claim.limit;
}

-- the same of the batches that they are made in
abbrev pub common_of_claim : Claim → Common
common_of_claim claim = record {
  code = listing claim.script.code.now;
  deal = claim.script.deal.now;
  limit = claim.limit;
}

-- ---- one order

-- the directed run has another verdict, and at most so many steps
pub record IsOther (deal : Deal) (bodies : List Pending) (order : List ℕ) (moments : List Moment)
    (verdict : Verdict) (steps limit : ℕ) (other : Verdict) : Type 0 where
  pub made : List Event
  pub is_directed : directed_run deal bodies order moments limit ≡ Some (made, other)
  pub short : length made ≤ steps
  pub apart : other ≢ verdict

-- what an order leads to: to the verdict by these points, to another verdict, or to more steps than
-- there may be
abbrev pub Tells : DirectedSetup → List ℕ → Tested → Type 0
Tells setup order (Led points) =
    IsPointed setup.deal setup.bodies order setup.directive.events setup.directive.verdict
    setup.steps setup.limit points
Tells setup order (Other other) =
    IsOther setup.deal setup.bodies order setup.directive.events setup.directive.verdict setup.steps
    setup.limit other
Tells setup order (TooLong many) =
    RunsTooLong setup.deal setup.bodies order setup.directive.events setup.steps setup.limit many

-- ---- the orders, by their places

-- the order is at the place, from 0, among those that place the directive's thread last
abbrev pub IsOrderAt : DirectedSetup → ℕ → List ℕ → Type 0
IsOrderAt setup place order =
    slice_get (low_orders setup.deal.threads setup.directive.low) place ≡ Some order

-- the directed run of the order, of at most so many steps as the limit says
pub record IsOrderRun (setup : DirectedSetup) (order : List ℕ) (played : Played) : Type 0 where
  pub run : IsRun (run_of_order setup order) played.events played.outcome
  pub short : length played.events ≤ setup.limit

-- it is that of the order at the place
abbrev pub IsRunAt : DirectedSetup → ℕ → Played → Type 0
IsRunAt setup place played =
    (order : List ℕ) → IsOrderAt setup place order → IsOrderRun setup order played

-- ---- the rows so far

-- the rows are those of the first orders
abbrev pub AreFirstCertifyRows : DirectedSetup → List CertifyRow → Type 0
AreFirstCertifyRows setup rows =
    AreOrderRows setup.deal setup.bodies setup.directive setup.steps setup.limit
    (take (length rows) (low_orders setup.deal.threads setup.directive.low)) rows

-- there is a row for each order before the place
pub record HasRowsBefore (setup : DirectedSetup) (rows : List CertifyRow) (place : ℕ) : Type 0 where
  pub long : length rows ≡ place
  pub are : AreFirstCertifyRows setup rows
