-- What certifying a directive answers (this project).
use Rattle.std.specs.Prelude.{◌≡◌, ◌≢◌, ℕ, ◌*◌, ◌^◌, ◌<◌, ◌≤◌, List, [], ◌∷◌, ◌++◌, length, Some}
use Rattle.pct_ask.specs.declared.Deal.{Deal}
use Rattle.pct_ask.specs.declared.event.Event.{Event}
use Rattle.pct_ask.specs.declared.verdict.Verdict.{Verdict}
use Rattle.pct_ask.specs.Bodies.{Pending}
use Rattle.rank_now.specs.declared.moment.Moment.{Moment}
use Rattle.rank_now.specs.Order.{IsOrder}
use Rattle.turn_book.specs.Posts.{schedule_of}
use Rattle.worker_run.specs.Run.{run, directed_run}
use Rattle.directive.specs.declared.directive.Directive.{Directive}
use Rattle.choices.specs.Points.{points_of}
use Rattle.directive_run.specs.Exposing.{RunsTooLong}
use Rattle.choices.specs.Orders.{factorial, low_orders, EndsIn}
use Rattle.choices.specs.Counting.{hits}
use Rattle.directive_run.specs.Guarantees.{IsLed, Guarantees}
use Rattle.directive_run.specs.declared.answers.CertifyRow.{CertifyRow}
use Rattle.directive_run.specs.declared.answers.Certified.{Certified}
use Rattle.directive_run.specs.declared.answers.Certified.TheVariants.{Yes, Refuted, TooLong}
use Rattle.directive_run.specs.declared.answers.Certified.TheVariants.{TooManyThreads}
use Rattle.pct_ask.specs.declared.limits.TheConstants.{MAX_CERTIFIED_THREADS}

-- The order's directed run has the verdict and at most so many steps; the points are those of its
-- moments, and the run of the order and these points has the same steps and the verdict.
pub record IsPointed (deal : Deal) (bodies : List Pending) (order : List ℕ) (moments : List Moment)
    (verdict : Verdict) (steps limit : ℕ) (points : List ℕ) : Type 0 where
  pub made : List Event
  pub is_directed : directed_run deal bodies order moments limit ≡ Some (made, verdict)
  pub short : length made ≤ steps
  pub points_are : points ≡ points_of (schedule_of made) steps moments
  pub is_run : run deal bodies order points limit ≡ Some (made, verdict)

-- one row for each of the orders, in their order
abbrev pub AreOrderRows : Deal → List Pending → Directive → ℕ → ℕ → List (List ℕ) → List CertifyRow
    → Type 0
AreOrderRows deal bodies directive steps limit [] [] = Unit {0}
AreOrderRows deal bodies directive steps limit [] (row ∷ rows) = ⊥
AreOrderRows deal bodies directive steps limit (order ∷ orders) [] = ⊥
AreOrderRows deal bodies directive steps limit (order ∷ orders) (row ∷ rows) =
    (row.order ≡ order)
    × IsPointed deal bodies order directive.events directive.verdict steps limit row.points
    × AreOrderRows deal bodies directive steps limit orders rows

-- The directive guarantees its verdict; there is one row for each order that places its thread
-- last; and the count: of the n! k^m choices of an order and m points in 1..k, for n threads, k
-- steps and m moments, at least one in n k^m leads to the verdict.
pub record IsCertified (deal : Deal) (bodies : List Pending) (directive : Directive)
    (steps limit bound : ℕ) (rows : List CertifyRow) : Type 0 where
  pub few : deal.threads ≤ MAX_CERTIFIED_THREADS
  pub guarantees : Guarantees deal bodies directive.low directive.events directive.verdict steps
      limit
  pub bound_is : bound ≡ deal.threads * steps ^ length directive.events
  pub rows_are : AreOrderRows deal bodies directive steps limit
      (low_orders deal.threads directive.low) rows
  pub counted : factorial deal.threads * steps ^ length directive.events
      ≤ hits (λ order points. run deal bodies order points limit) deal.threads steps
      (length directive.events) directive.verdict * bound

-- The order is the first of those that place the thread last whose directed run isn't led to the
-- verdict: those before it are.
pub record IsFirstOther (deal : Deal) (bodies : List Pending) (directive : Directive)
    (steps limit : ℕ) (order : List ℕ) : Type 0 where
  pub few : deal.threads ≤ MAX_CERTIFIED_THREADS
  pub before : List (List ℕ)
  pub after : List (List ℕ)
  pub listed : low_orders deal.threads directive.low ≡ before ++ order ∷ after
  pub led : (other : List ℕ) (front back : List (List ℕ)) → before ≡ front ++ other ∷ back
      → IsLed deal bodies other directive.events directive.verdict steps limit

-- Its directed run has this other verdict, and at most so many steps.
pub record IsRefuted (deal : Deal) (bodies : List Pending) (directive : Directive) (steps limit : ℕ)
    (order : List ℕ) (verdict : Verdict) : Type 0 where
  pub first : IsFirstOther deal bodies directive steps limit order
  pub is_order : IsOrder order
  pub whole : length order ≡ deal.threads
  pub last : EndsIn order directive.low
  pub made : List Event
  pub is_directed : directed_run deal bodies order directive.events limit ≡ Some (made, verdict)
  pub short : length made ≤ steps
  pub apart : verdict ≢ directive.verdict

-- Its directed run has this number of steps, which is more.
pub record IsTooLongUnder (deal : Deal) (bodies : List Pending) (directive : Directive)
    (steps limit : ℕ) (order : List ℕ) (many : ℕ) : Type 0 where
  pub first : IsFirstOther deal bodies directive steps limit order
  pub is_order : IsOrder order
  pub whole : length order ≡ deal.threads
  pub last : EndsIn order directive.low
  pub too_long : RunsTooLong deal bodies order directive.events steps limit many

-- What each answer says of the directive: it is certified; or this order is the first that isn't
-- led to its verdict, by another verdict or by too many steps; or there are more than 7 threads.
abbrev pub Certifies : Deal → List Pending → Directive → ℕ → ℕ → Certified → Type 0
Certifies deal bodies directive steps limit (Yes bound rows) =
    IsCertified deal bodies directive steps limit bound rows
Certifies deal bodies directive steps limit (Refuted order verdict) =
    IsRefuted deal bodies directive steps limit order verdict
Certifies deal bodies directive steps limit (TooLong order many) =
    IsTooLongUnder deal bodies directive steps limit order many
Certifies deal bodies directive steps limit (TooManyThreads threads) =
    (threads ≡ deal.threads) × (MAX_CERTIFIED_THREADS < threads)

-- the answer is that the directive is certified
abbrev pub IsYes : Certified → Type 0
IsYes (Yes bound rows) = Unit {0}
IsYes (Refuted order verdict) = ⊥
IsYes (TooLong order many) = ⊥
IsYes (TooManyThreads threads) = ⊥
