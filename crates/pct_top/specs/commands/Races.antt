-- `races`: the data races of a script's run (this project).
use Rattle.std.specs.Prelude.{◌≡◌, ℕ, ◌==◌, List, [], ◌∷◌, ◌++◌, length, map, Some, codes, decimal}
use Rattle.std.specs.List.{flat_map}
use Rattle.pct_ask.specs.NameLists.{NameLists}
use Rattle.pct_ask.specs.TraceText.{name_at, line_text}
use Rattle.pct_ask.specs.declared.Deal.{Deal}
use Rattle.script_tree.specs.ScriptText.{ScriptText}
use Rattle.worker_run.specs.Run.{Run}
use Rattle.hb_race.specs.declared.race.Race.{Race}
use Rattle.hb_race.specs.Races.{AreRaces}
use Rattle.pct_top.specs.Printed.{Printed, printed_text}
use Rattle.pct_top.specs.Runs.{run_of}

-- the variable, and the numbers of its two steps
abbrev pub race_words : NameLists → Race → List (List ℕ)
race_words names race =
    codes "race" ∷ name_at names.vars race.var ∷ decimal race.first ∷ decimal race.second ∷ []

-- a line for each race, and how many there are
abbrev pub race_lines : NameLists → List Race → List (List (List ℕ))
race_lines names races =
    map (race_words names) races ++ (codes "races" ∷ decimal (length races) ∷ []) ∷ []

-- the lines of the races and of their number, each with its LF
abbrev pub race_text : NameLists → List Race → List ℕ
race_text names races = flat_map line_text (race_lines names races)

-- These races are printed. It is done where there is none.
abbrev pub printed_races : NameLists → List Race → Printed
printed_races names races = printed_text (race_text names races) (length races == 0)

-- the races of the run under the order and the points
abbrev pub PrintsRaces : ScriptText → Deal → List ℕ → List ℕ → ℕ → Printed → Type 0
PrintsRaces script deal order points limit printed =
    (ended : Run) × (run_of script deal order points limit ≡ Some ended)
    × ((races : List Race) × AreRaces ended.0 races × (printed ≡ printed_races script.names races))
