-- The report of a campaign, from numbers (this project).
use Rattle.std.specs.Prelude.{◌≡◌, ℕ, List, Some, All}
use Rattle.pct_ask.specs.NameLists.{NameLists}
use Rattle.pct_ask.specs.declared.event.Row.{Row}
use Rattle.failure_rank.specs.Groups.{IsRanking}
use Rattle.failure_rank.specs.declared.group.Group.{Group}
use Rattle.report_text.specs.declared.frame.Frame.{Frame}
use Rattle.report_text.specs.Report.{IsWritable}
use Rattle.report_text.specs.Text.{text_of}
use Rattle.report_text.specs.Json.{json_of}
use Rattle.c_values.specs.declared.row.PctRow.{PctRow}
use Rattle.c_values.specs.NamesText.{names_of_text}
use Rattle.c_values.specs.Rows.{AreRows}
use Rattle.c_texts.specs.declared.report.PctFrame.{PctFrame}

-- the frame that the numbers say
abbrev pub frame_said : PctFrame → Frame
frame_said n = record { threads = n.threads; steps = n.steps; depth = n.depth; limit = n.limit }

-- the numbers say these runs, whose verdicts have texts under the names, and these are their groups
pub record SaysReport (names : NameLists) (numbers : List PctRow) (rows : List Row)
    (groups : List Group) : Type 0 where
  pub say : AreRows numbers rows
  pub known : All (λ row. IsWritable names row.verdict) rows
  pub ranking : IsRanking rows groups

-- the report as a text, under the names that a text says
pub record IsReportText (of_names : List ℕ) (frame : PctFrame) (numbers : List PctRow)
    (text : List ℕ) : Type 0 where
  pub names : NameLists
  pub named : names_of_text of_names ≡ Some names
  pub rows : List Row
  pub groups : List Group
  pub says : SaysReport names numbers rows groups
  pub written : text ≡ text_of (frame_said frame) rows groups names

-- the same as JSON
pub record IsReportJson (of_names : List ℕ) (frame : PctFrame) (numbers : List PctRow)
    (text : List ℕ) : Type 0 where
  pub names : NameLists
  pub named : names_of_text of_names ≡ Some names
  pub rows : List Row
  pub groups : List Group
  pub says : SaysReport names numbers rows groups
  pub written : text ≡ json_of (frame_said frame) rows groups names
