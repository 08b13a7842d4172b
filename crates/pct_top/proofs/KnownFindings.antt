-- What is found of a script's run names only what the script has.
use Rattle.std.proofs.Common.{◌≡◌, ℕ, ◌≤◌, List, length, refl, arith}
use Rattle.std.proofs.lemmas.List.Elements.{All-weaker}
use Rattle.pct_ask.specs.declared.Deal.{Deal}
use Rattle.pct_ask.specs.declared.verdict.Outcome.TheVariants.{Verdict as Ends}
use Rattle.script_tree.specs.ScriptText.{ScriptText}
use Rattle.script_tree.specs.Fitting.{IsScript}
use Rattle.script_tree.specs.DealOf.{IsDealOf}
use Rattle.policy_pick.specs.Plan.{ByPoints}
use Rattle.script_body.specs.Bodies.{bodies_of}
use Rattle.worker_run.proofs.laws.WholeRuns.{run-played}
use Rattle.directive.specs.Directive.{IsMoment}
use Rattle.choices.specs.Moments.{MomentFits}
use Rattle.directive_find.specs.Found.{Finds}
use Rattle.directive_find.specs.declared.finding.FoundOut.{FoundOut}
use Rattle.directive_find.specs.declared.finding.FoundOut.TheVariants.{Events, Passes}
use Rattle.pct_top.specs.commands.KnownFinding.{IsKnownFinding}
use Rattle.pct_top.proofs.KnownRuns.{known-run}

pub known-finding : (script : ScriptText) (deal : Deal) → IsScript script → IsDealOf script deal
    → (order points : List ℕ) (limit : ℕ) (found : FoundOut)
    → deal.threads ≡ length order → length points ≤ 7 → limit ≤ 100000
    → Finds deal (bodies_of script) order points limit found → IsKnownFinding script.names found
known-finding script deal sound of order points limit (Events events verdict steps) whole few last
    is =
    let played = run-played deal (bodies_of script) order points limit is.made verdict whole
    is.is_run in
    let known = known-run script deal sound of (ByPoints order points) limit is.made verdict
    (Ends verdict) refl played in
    record {
      few = omega (arith, is.few);
      moments = All-weaker (MomentFits deal.threads limit) (IsMoment script.names)
          (λ moment fits. record {
            thread = omega (arith, fits.thread, of.threads);
            number = (fits.some, omega (arith, fits.few));
          }) events is.fit;
      threads = (known.end).threads;
      whole = (known.end).whole;
    }
known-finding script deal sound of order points limit (Passes steps) whole few last is = tt
