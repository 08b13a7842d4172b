-- The report as the JSON value (RFC 8259) that is written (its members are this project's).
use Rattle.std.specs.Prelude.{◌≡◌, ◌++◌, ◌∷◌, [], ℕ, List, Some, map, codes}
use Rattle.serde_json.specs.Data.{Data, number, unsigned, string, array, object, item, no_items}
use Rattle.serde_json.specs.Data.{member, no_members}
use Rattle.serde_json.specs.Read.{read}
use Rattle.serde_json.specs.View.{items_of}
use Rattle.pct_ask.specs.NameLists.{NameLists}
use Rattle.pct_ask.specs.VerdictText.{verdict_text}
use Rattle.pct_ask.specs.declared.event.Row.{Row}
use Rattle.failure_rank.specs.declared.group.Group.{Group}
use Rattle.report_text.specs.declared.frame.Frame.{Frame}

-- a run as an array: its seed, its steps and how it ended
abbrev pub row_data : NameLists → Row → Data
row_data names row =
    array
    (item (number (unsigned row.seed)) (item (number (unsigned row.steps))
    (item (string (verdict_text names row.verdict)) no_items)))

-- a failure as an object: how often it came, its first seed, its fewest steps and what it is
abbrev pub group_data : NameLists → Group → Data
group_data names group =
    object
    (member (codes "count") (number (unsigned group.count))
    (member (codes "first") (number (unsigned group.first))
    (member (codes "steps") (number (unsigned group.steps))
    (member (codes "verdict") (string (verdict_text names group.verdict)) no_members))))

-- the report as an object: what the campaign was run with, its failures and its runs
abbrev pub report_data : Frame → List Row → List Group → NameLists → Data
report_data frame rows groups names =
    object
    (member (codes "depth") (number (unsigned frame.depth))
    (member (codes "groups") (array (items_of (map (group_data names) groups)))
    (member (codes "limit") (number (unsigned frame.limit))
    (member (codes "rows") (array (items_of (map (row_data names) rows)))
    (member (codes "steps") (number (unsigned frame.steps))
    (member (codes "threads") (number (unsigned frame.threads)) no_members))))))

-- the line before LF is read as the value (RFC 8259, by serde_json's reader)
pub record ReadsBack (text : List ℕ) (value : Data) : Type 0 where
  pub line : List ℕ
  pub ended : text ≡ line ++ 10 ∷ []
  pub reads : read line ≡ Some value
