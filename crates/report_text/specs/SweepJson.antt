-- A sweep's report as JSON (RFC 8259) in one line, with no space outside strings (its members are
-- this project's).
use Rattle.std.specs.Prelude.{ℕ, List, [], ◌∷◌, ◌++◌, map, codes, decimal}
use Rattle.pct_ask.specs.NameLists.{NameLists}
use Rattle.pct_ask.specs.VerdictText.{thread_name, verdict_text}
use Rattle.report_text.specs.declared.frame.Frame.{Frame}
use Rattle.report_text.specs.declared.swept.SweptGroup.{SweptGroup}
use Rattle.report_text.specs.Json.{string_text, array_text, member_text, object_text}

-- a thread's name
abbrev pub name_text : NameLists → ℕ → List ℕ
name_text names thread = string_text (thread_name names thread)

-- a verdict as an object: how many choices lead to it, the first of them, the fewest steps of their
-- runs, and what it is
abbrev pub swept_text : NameLists → SweptGroup → List ℕ
swept_text names group =
    object_text
    (member_text (codes "count") (decimal group.count)
    ∷ member_text (codes "order") (array_text (map (name_text names) group.order))
    ∷ member_text (codes "points") (array_text (map decimal group.points))
    ∷ member_text (codes "steps") (decimal group.steps)
    ∷ member_text (codes "verdict") (string_text (verdict_text names group.verdict)) ∷ [])

-- the report as an object, with its keys in alphabetical order
abbrev pub sweep_object : Frame → ℕ → List SweptGroup → ℕ → NameLists → List ℕ
sweep_object frame choices groups passed names =
    object_text
    (member_text (codes "choices") (decimal choices)
    ∷ member_text (codes "depth") (decimal frame.depth)
    ∷ member_text (codes "groups") (array_text (map (swept_text names) groups))
    ∷ member_text (codes "limit") (decimal frame.limit)
    ∷ member_text (codes "passed") (decimal passed)
    ∷ member_text (codes "steps") (decimal frame.steps)
    ∷ member_text (codes "threads") (decimal frame.threads) ∷ [])

-- the report in one line, which ends with LF
abbrev pub sweep_json_of : Frame → ℕ → List SweptGroup → ℕ → NameLists → List ℕ
sweep_json_of frame choices groups passed names =
    sweep_object frame choices groups passed names ++ 10 ∷ []
