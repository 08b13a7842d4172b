-- `big`: the campaign of the large script, counted (this project).
use Rattle.std.specs.Prelude.{◌≡◌, ℕ, not, List, [], ◌∷◌, length, None, codes, decimal}
use Rattle.std.specs.List.{flat_map, count_by}
use Rattle.pct_ask.specs.Lines.{lines_of}
use Rattle.pct_ask.specs.TraceText.{line_text}
use Rattle.pct_ask.specs.declared.Deal.{Deal}
use Rattle.pct_ask.specs.declared.event.Row.{Row}
use Rattle.script_tree.specs.Layout.{layout}
use Rattle.script_tree.specs.ScriptText.{ScriptText}
use Rattle.large_script.specs.Large.{large_script}
use Rattle.failure_rank.specs.declared.group.Group.{Group}
use Rattle.pct_top.specs.Printed.{Printed, printed_text}
use Rattle.pct_top.specs.Runs.{DrawsFrom, is_passed}
use Rattle.pct_top.specs.commands.Campaign.{setup_of, all_pass, AreOfSeeds}

-- how many runs don't pass
abbrev pub failures : List Row → ℕ
failures rows = count_by (λ row. not (is_passed row.verdict)) rows

-- the words of a line: what is counted, and how many there are
abbrev pub count_words : List ℕ → ℕ → List (List ℕ)
count_words word count = word ∷ decimal count ∷ []

-- the lines of the script, the steps of its run in declared order, the runs, and their failures and
-- groups
abbrev pub big_lines : ℕ → ℕ → List Row → List Group → List (List (List ℕ))
big_lines lines steps rows groups =
    count_words (codes "lines") lines ∷ count_words (codes "steps") steps
    ∷ count_words (codes "runs") (length rows) ∷ count_words (codes "failures") (failures rows)
    ∷ count_words (codes "groups") (length groups) ∷ []

-- how many lines the text of the large script with so many pieces has
abbrev pub script_lines : ℕ → ℕ
script_lines pieces = length (lines_of (layout (large_script pieces)))

-- These counts are printed. It is done where every run passes.
abbrev pub printed_counts : ℕ → ℕ → List Row → List Group → Printed
printed_counts pieces steps rows groups =
    printed_text (flat_map line_text (big_lines (script_lines pieces) steps rows groups))
    (all_pass rows)

-- the campaign of the seeds 1 to 20 at depth 3, under the limit that holds where none is given
abbrev pub OfBigRuns : ℕ → ℕ → ScriptText → Deal → Printed → Type 0
OfBigRuns pieces k script deal printed =
    (rows : List Row) × (groups : List Group)
    × AreOfSeeds (setup_of script deal 3 k 10000) 1 20 rows groups
    × (printed ≡ printed_counts pieces k rows groups)

-- the campaign of the large script, its points drawn from as many steps as its run in declared
-- order has
abbrev pub OfBig : ℕ → ScriptText → Deal → Printed → Type 0
OfBig pieces script deal printed =
    (k : ℕ) × DrawsFrom script deal 10000 None k × OfBigRuns pieces k script deal printed
