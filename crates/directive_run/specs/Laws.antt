-- Laws on what exposing and certifying a directive may answer (this project).
use Rattle.std.specs.Prelude.{◌≡◌, ◌↔◌, ℕ, ◌≤◌, List}
use Rattle.pct_ask.specs.declared.Deal.{Deal}
use Rattle.pct_ask.specs.Bodies.{Pending}
use Rattle.rank_now.specs.declared.moment.Moment.{Moment}
use Rattle.directive.specs.declared.directive.Directive.{Directive}
use Rattle.directive_run.specs.Exposing.{Exposes}
use Rattle.directive_run.specs.Guarantees.{Guarantees}
use Rattle.directive_run.specs.Certifying.{Certifies, IsYes}
use Rattle.directive_run.specs.declared.answers.Exposed.{Exposed}
use Rattle.directive_run.specs.declared.answers.Certified.{Certified}
use Rattle.pct_ask.specs.declared.limits.TheConstants.{MAX_CERTIFIED_THREADS}

-- Under an order a directive's moments are exposed in one way.
abbrev pub EachIsExposedOnce : Type 0
EachIsExposedOnce =
    (deal : Deal) (bodies : List Pending) (order : List ℕ) (moments : List Moment) (steps limit : ℕ)
    (one other : Exposed)
    → Exposes deal bodies order moments steps limit one
    → Exposes deal bodies order moments steps limit other → one ≡ other

-- A directive has one certificate.
abbrev pub EachHasOneCertificate : Type 0
EachHasOneCertificate =
    (deal : Deal) (bodies : List Pending) (directive : Directive) (steps limit : ℕ)
    (one other : Certified)
    → Certifies deal bodies directive steps limit one
    → Certifies deal bodies directive steps limit other → one ≡ other

-- Of at most 7 threads it says yes exactly where the directive guarantees its verdict.
abbrev pub SaysYesWhereGuaranteed : Type 0
SaysYesWhereGuaranteed =
    (deal : Deal) (bodies : List Pending) (directive : Directive) (steps limit : ℕ)
    (certified : Certified)
    → deal.threads ≤ MAX_CERTIFIED_THREADS → Certifies deal bodies directive steps limit certified
    → IsYes certified
    ↔ Guarantees deal bodies directive.low directive.events directive.verdict steps limit
