-- What a directive leads to names only what the script has.
use Rattle.std.proofs.Common.{◌≡◌, ℕ, ◌≤◌, List, length, refl, ap, sym, ◌∙◌, arith}
use Rattle.std.proofs.lemmas.List.{length-map}
use Rattle.std.proofs.lemmas.List.Elements.{All-weaker}
use Rattle.pct_ask.specs.declared.Deal.{Deal}
use Rattle.pct_ask.specs.declared.verdict.Outcome.TheVariants.{Verdict as Ends}
use Rattle.pct_ask.specs.Limits.{IsStepCount}
use Rattle.rank_now.specs.declared.moment.Moment.{Moment}
use Rattle.script_tree.specs.ScriptText.{ScriptText}
use Rattle.script_tree.specs.Fitting.{IsScript}
use Rattle.script_tree.specs.DealOf.{IsDealOf}
use Rattle.policy_pick.specs.Plan.{ByPoints, ByMoments}
use Rattle.turn_book.specs.Posts.{schedule_of}
use Rattle.script_body.specs.Bodies.{bodies_of}
use Rattle.trace_text.specs.Lawful.{IsKnownRun}
use Rattle.worker_run.specs.declared.played.Played.{Played}
use Rattle.worker_run.proofs.laws.WholeRuns.{run-played, directed-played}
use Rattle.directive.specs.declared.directive.Directive.{Directive}
use Rattle.choices.specs.Points.{point_of_moment}
use Rattle.choices.specs.PointLists.{IsWithin}
use Rattle.directive_run.specs.Exposing.{IsExposed}
use Rattle.directive_run.specs.Certifying.{Certifies}
use Rattle.directive_run.specs.declared.answers.Certified.{Certified}
use Rattle.directive_run.specs.declared.answers.Certified.TheVariants.{Yes, Refuted, TooLong}
use Rattle.directive_run.specs.declared.answers.Certified.TheVariants.{TooManyThreads}
use Rattle.pct_top.specs.Runs.{trace_version}
use Rattle.pct_top.specs.Settings.{AreChangePoints}
use Rattle.pct_top.specs.commands.KnownCertificate.{IsKnownCertificate}
use Rattle.pct_top.proofs.KnownRuns.{known-run}

module _ (script : ScriptText) (deal : Deal) (sound : IsScript script)
    (of : IsDealOf script deal) where
  -- ---- a certificate

  pub known-certificate : (directive : Directive) (steps limit : ℕ) (certified : Certified)
      → Certifies deal (bodies_of script) directive steps limit certified
      → IsKnownCertificate script.names certified
  known-certificate directive steps limit (Yes bound rows) is = tt
  known-certificate directive steps limit (Refuted order verdict) is =
      let played = directed-played deal (bodies_of script) order directive.events limit is.made
      verdict (sym is.whole) is.is_directed in
      let known = known-run script deal sound of (ByMoments order directive.events) limit is.made
      verdict (Ends verdict) refl played in
      ((known.end).threads, (known.end).whole)
  known-certificate directive steps limit (TooLong order many) is = tt
  known-certificate directive steps limit (TooManyThreads threads) is = tt

  -- ---- what is exposed

  module _ (order : List ℕ) (events : List Moment) (steps limit : ℕ) (points : List ℕ)
      (played : Played)
      (is : IsExposed deal (bodies_of script) order events steps limit points played) where
    pub known-exposed : deal.threads ≡ length order
        → IsKnownRun script.names (trace_version script) limit played.events is.verdict
    known-exposed whole =
        let runs = run-played deal (bodies_of script) order points limit played.events is.verdict
        whole is.is_run in
        known-run script deal sound of (ByPoints order points) limit played.events is.verdict
        (Ends is.verdict) refl runs

    many-points : length points ≡ length events
    many-points = ap length is.points_are
        ∙ length-map events (point_of_moment (schedule_of played.events) steps)

    pub exposed-points : length events ≤ 7 → IsStepCount steps → AreChangePoints points
    exposed-points few fits = (
      omega (arith, many-points, few),
      All-weaker (IsWithin steps) IsStepCount
          (λ point within. (within.0, omega (arith, within.1, fits.1))) points is.within,
    )
