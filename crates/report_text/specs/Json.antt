-- A campaign's report as JSON (RFC 8259) in one line, with no space outside strings (its members
-- are this project's).
use Rattle.std.specs.Prelude.{ℕ, List, [], ◌∷◌, ◌++◌, map, codes, decimal}
use Rattle.std.specs.List.{join_with_byte}
use Rattle.pct_ask.specs.NameLists.{NameLists}
use Rattle.pct_ask.specs.VerdictText.{verdict_text}
use Rattle.pct_ask.specs.declared.event.Row.{Row}
use Rattle.failure_rank.specs.declared.group.Group.{Group}
use Rattle.report_text.specs.declared.frame.Frame.{Frame}

-- a text in which nothing needs an escape: it stands between two quotation marks
abbrev pub string_text : List ℕ → List ℕ
string_text text = 34 ∷ (text ++ 34 ∷ [])

-- items between brackets, with a comma between them
abbrev pub array_text : List (List ℕ) → List ℕ
array_text items = 91 ∷ (join_with_byte 44 items ++ 93 ∷ [])

-- a key, a colon and a value
abbrev pub member_text : List ℕ → List ℕ → List ℕ
member_text key value = string_text key ++ 58 ∷ value

-- members between braces, with a comma between them
abbrev pub object_text : List (List ℕ) → List ℕ
object_text members = 123 ∷ (join_with_byte 44 members ++ 125 ∷ [])

-- a run as an array: its seed, its steps and how it ended
abbrev pub row_text : NameLists → Row → List ℕ
row_text names row =
    array_text
    (decimal row.seed ∷ decimal row.steps ∷ string_text (verdict_text names row.verdict) ∷ [])

-- a failure as an object: how often it came, its first seed, its fewest steps and what it is
abbrev pub group_text : NameLists → Group → List ℕ
group_text names group =
    object_text
    (member_text (codes "count") (decimal group.count)
    ∷ member_text (codes "first") (decimal group.first)
    ∷ member_text (codes "steps") (decimal group.steps)
    ∷ member_text (codes "verdict") (string_text (verdict_text names group.verdict)) ∷ [])

-- the report as an object, with its keys in alphabetical order: what the campaign was run with,
-- its failures and its runs
abbrev pub report_object : Frame → List Row → List Group → NameLists → List ℕ
report_object frame rows groups names =
    object_text
    (member_text (codes "depth") (decimal frame.depth)
    ∷ member_text (codes "groups") (array_text (map (group_text names) groups))
    ∷ member_text (codes "limit") (decimal frame.limit)
    ∷ member_text (codes "rows") (array_text (map (row_text names) rows))
    ∷ member_text (codes "steps") (decimal frame.steps)
    ∷ member_text (codes "threads") (decimal frame.threads) ∷ [])

-- the report in one line, which ends with LF
abbrev pub json_of : Frame → List Row → List Group → NameLists → List ℕ
json_of frame rows groups names = report_object frame rows groups names ++ 10 ∷ []
