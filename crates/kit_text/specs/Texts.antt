-- What can be written under the names of a test (this project).
use Rattle.std.specs.Prelude.{◌≡◌, ◌≤◌, ◌<◌, List, length, All}
use Rattle.pct_ask.specs.NameLists.{NameLists}
use Rattle.pct_ask.specs.Objects.{sizes_of_deal, sizes_of_names}
use Rattle.pct_ask.specs.declared.deal.Deal.{Deal}
use Rattle.rank_now.specs.Order.{IsOrder}
use Rattle.report_text.specs.Report.{IsWritable}
use Rattle.trace_text.specs.Known.{IsPlainHead, IsOfVersion}
use Rattle.trace_text.specs.Lawful.{NamesKnown}
use Rattle.trace_text.specs.Trace.{head_of}
use Rattle.trace_text.specs.declared.file.TraceFile.{TraceFile}
use Rattle.pct_ask.specs.declared.event.Row.{Row}
use Rattle.directive.specs.Directive.{IsMoment}
use Rattle.directive.specs.declared.directive.Directive.{Directive}
use Rattle.failure_rank.specs.declared.group.Group.{Group}

-- The run can be written: each thread and object of the deal has a name and nothing else has, and
-- the head, the steps and the verdict are those of a trace.
pub record IsShowable (deal : Deal) (names : NameLists) (file : TraceFile) : Type 0 where
  pub named : sizes_of_deal deal ≡ sizes_of_names names
  pub head : IsPlainHead deal.threads (head_of file.header)
  pub order : IsOrder file.header.order
  pub few : length file.events ≤ file.header.limit
  pub steps : All (NamesKnown names file.header.version) file.events
  pub verdict : IsWritable names file.verdict
  pub of_version : IsOfVersion file.header.version file.verdict

-- the verdicts of a campaign can be written
pub record IsReportable (names : NameLists) (rows : List Row) (groups : List Group) : Type 0 where
  pub rows_known : All (λ row. IsWritable names row.verdict) rows
  pub groups_known : All (λ group. IsWritable names group.verdict) groups

-- the directive can be written: its threads have names, and its lines and numbers are a test's
pub record IsWritableDirective (names : NameLists) (directive : Directive) : Type 0 where
  pub low : directive.low < length names.threads
  pub events : All (IsMoment names) directive.events
  pub verdict : IsWritable names directive.verdict
