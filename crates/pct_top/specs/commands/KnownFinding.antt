-- What may be written of a finding: it names only what the script has.
use Rattle.std.specs.Prelude.{◌≤◌, List, length, All}
use Rattle.pct_ask.specs.NameLists.{NameLists}
use Rattle.pct_ask.specs.VerdictText.{HasNames, IsWholeVerdict}
use Rattle.pct_ask.specs.declared.verdict.Verdict.{Verdict}
use Rattle.rank_now.specs.declared.moment.Moment.{Moment}
use Rattle.directive.specs.Directive.{IsMoment}
use Rattle.directive_find.specs.declared.finding.FoundOut.{FoundOut}
use Rattle.directive_find.specs.declared.finding.FoundOut.TheVariants.{Events, Passes}
use Rattle.pct_ask.specs.declared.limits.TheConstants.{MAX_POINTS}

-- at most seven moments of the script's threads, and a verdict of theirs
pub record AreKnownMoments (names : NameLists) (events : List Moment) (verdict : Verdict) :
    Type 0 where
  pub few : length events ≤ MAX_POINTS
  pub moments : All (IsMoment names) events
  pub threads : HasNames names verdict
  pub whole : IsWholeVerdict verdict

abbrev pub IsKnownFinding : NameLists → FoundOut → Type 0
IsKnownFinding names (Events events verdict steps) = AreKnownMoments names events verdict
IsKnownFinding names (Passes steps) = Unit {0}
