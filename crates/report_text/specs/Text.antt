-- A campaign's report as a text: lines of words with one space between them (this project).
use Rattle.std.specs.Prelude.{ℕ, List, [], ◌∷◌, ◌++◌, length, map, codes, decimal}
use Rattle.std.specs.List.{flat_map}
use Rattle.pct_ask.specs.NameLists.{NameLists}
use Rattle.pct_ask.specs.VerdictText.{named_verdict, verdict_words}
use Rattle.pct_ask.specs.TraceText.{line_text}
use Rattle.pct_ask.specs.declared.event.Row.{Row}
use Rattle.failure_rank.specs.declared.group.Group.{Group}
use Rattle.report_text.specs.declared.frame.Frame.{Frame}

-- what the runs had in common, below the report's word and its version
abbrev pub frame_lines : List ℕ → Frame → List (List (List ℕ))
frame_lines word frame =
    (word ∷ decimal 1 ∷ []) ∷ (codes "threads" ∷ decimal frame.threads ∷ [])
    ∷ (codes "steps" ∷ decimal frame.steps ∷ []) ∷ (codes "depth" ∷ decimal frame.depth ∷ [])
    ∷ (codes "limit" ∷ decimal frame.limit ∷ []) ∷ []

-- a run: its seed, its steps and how it ended
abbrev pub row_words : NameLists → Row → List (List ℕ)
row_words names row =
    decimal row.seed ∷ decimal row.steps ∷ verdict_words (named_verdict names row.verdict)

-- a failure: how often it came, its least number of steps, its first seed and what it is
abbrev pub group_words : NameLists → Group → List (List ℕ)
group_words names group =
    decimal group.count ∷ decimal group.steps ∷ decimal group.first
    ∷ verdict_words (named_verdict names group.verdict)

-- the frame, a line for each row, the number of groups, and a line for each group
abbrev pub text_of : Frame → List Row → List Group → NameLists → List ℕ
text_of frame rows groups names =
    flat_map line_text
    (frame_lines (codes "campaign") frame ++ map (row_words names) rows
    ++ (codes "groups" ∷ decimal (length groups) ∷ []) ∷ map (group_words names) groups)
