-- A sweep's report as the JSON value (RFC 8259) that is written (its members are this project's).
use Rattle.std.specs.Prelude.{ℕ, List, map, codes}
use Rattle.serde_json.specs.Data.{Data, number, unsigned, string, array, object, member, no_members}
use Rattle.serde_json.specs.View.{items_of}
use Rattle.pct_ask.specs.NameLists.{NameLists}
use Rattle.pct_ask.specs.VerdictText.{thread_name, verdict_text}
use Rattle.report_text.specs.declared.frame.Frame.{Frame}
use Rattle.report_text.specs.declared.swept.SweptGroup.{SweptGroup}

-- a thread's name
abbrev pub name_data : NameLists → ℕ → Data
name_data names thread = string (thread_name names thread)

-- a change point
abbrev pub point_data : ℕ → Data
point_data point = number (unsigned point)

-- a verdict as an object: how many choices lead to it, the first of them, the fewest steps of their
-- runs, and what it is
abbrev pub swept_data : NameLists → SweptGroup → Data
swept_data names group =
    object
    (member (codes "count") (number (unsigned group.count))
    (member (codes "order") (array (items_of (map (name_data names) group.order)))
    (member (codes "points") (array (items_of (map point_data group.points)))
    (member (codes "steps") (number (unsigned group.steps))
    (member (codes "verdict") (string (verdict_text names group.verdict)) no_members)))))

-- the report as an object: what the sweep was made with, its groups, and how many choices pass
abbrev pub sweep_data : Frame → ℕ → List SweptGroup → ℕ → NameLists → Data
sweep_data frame choices groups passed names =
    object
    (member (codes "choices") (number (unsigned choices))
    (member (codes "depth") (number (unsigned frame.depth))
    (member (codes "groups") (array (items_of (map (swept_data names) groups)))
    (member (codes "limit") (number (unsigned frame.limit))
    (member (codes "passed") (number (unsigned passed))
    (member (codes "steps") (number (unsigned frame.steps))
    (member (codes "threads") (number (unsigned frame.threads)) no_members)))))))
