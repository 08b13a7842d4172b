-- A sweep's report as a text: lines of words with one space between them (this project).
use Rattle.std.specs.Prelude.{ℕ, List, [], ◌∷◌, ◌++◌, length, map, codes, decimal}
use Rattle.std.specs.List.{flat_map}
use Rattle.pct_ask.specs.NameLists.{NameLists}
use Rattle.pct_ask.specs.VerdictText.{thread_name, named_verdict, verdict_words}
use Rattle.pct_ask.specs.TraceText.{line_text}
use Rattle.report_text.specs.declared.frame.Frame.{Frame}
use Rattle.report_text.specs.declared.swept.SweptGroup.{SweptGroup}
use Rattle.report_text.specs.Text.{frame_lines}

-- words, each with a space behind it
abbrev pub spaced : List (List ℕ) → List ℕ
spaced words = flat_map (λ word. word ++ 32 ∷ []) words

-- what the sweep was made with, and how many choices and groups there are
abbrev pub sweep_lines : Frame → ℕ → ℕ → List (List (List ℕ))
sweep_lines frame choices groups =
    frame_lines (codes "sweep") frame
    ++ (codes "choices" ∷ decimal choices ∷ []) ∷ (codes "groups" ∷ decimal groups ∷ []) ∷ []

-- A verdict: how many choices lead to it, the least number of steps of their runs, the first of the
-- choices, and what it is.
abbrev pub swept_words : NameLists → SweptGroup → List (List ℕ)
swept_words names group =
    decimal group.count ∷ decimal group.steps ∷ codes "order"
    ∷ map (thread_name names) group.order
    ++ codes "points" ∷ map decimal group.points
    ++ codes "verdict" ∷ verdict_words (named_verdict names group.verdict)

-- the frame, a line for each group, and how many choices pass
abbrev pub sweep_text_of : Frame → ℕ → List SweptGroup → ℕ → NameLists → List ℕ
sweep_text_of frame choices groups passed names =
    flat_map line_text
    (sweep_lines frame choices (length groups) ++ map (swept_words names) groups
    ++ (codes "passed" ∷ decimal passed ∷ []) ∷ [])
