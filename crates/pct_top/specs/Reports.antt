-- What is reported of a run, by the command that asks for it (this project).
use Rattle.std.specs.Prelude.{ℕ, length, List, Option}
use Rattle.pct_ask.specs.declared.Deal.{Deal}
use Rattle.script_tree.specs.ScriptText.{ScriptText}
use Rattle.priority_draw.specs.Drawing.{draw_of_seed}
use Rattle.pct_top.specs.declared.settings.Report.{Report}
use Rattle.pct_top.specs.declared.settings.Report.TheVariants.{Trace, Races, Locks, Find}
use Rattle.pct_top.specs.Printed.{Printed, OfOrder}
use Rattle.pct_top.specs.Runs.{DrawsFrom}
use Rattle.pct_top.specs.commands.Run.{PrintsTrace}
use Rattle.pct_top.specs.commands.Races.{PrintsRaces}
use Rattle.pct_top.specs.commands.Locks.{PrintsLocks}
use Rattle.pct_top.specs.commands.Find.{PrintsFound}

-- the report on the run under the order and the points
abbrev pub OfReport : Report → ScriptText → Deal → List ℕ → List ℕ → ℕ → Printed → Type 0
OfReport Trace = PrintsTrace
OfReport Races = PrintsRaces
OfReport Locks = PrintsLocks
OfReport Find = PrintsFound

-- the report on the run under the order that these names give, and these points
abbrev pub OfOrdered :
    List (List ℕ) → ℕ → List ℕ → ℕ → Report → ScriptText → Deal → Printed → Type 0
OfOrdered items word points limit report script deal printed =
    OfOrder script.names items word
    (λ order. OfReport report script deal order points limit) printed

-- the report on the run under the order and the points that a seed gives, whose points are drawn
-- from k steps
abbrev pub OfDrawn : ℕ → ℕ → ℕ → ℕ → Report → ScriptText → Deal → Printed → Type 0
OfDrawn seed depth k limit report script deal printed =
    let own = draw_of_seed seed (length script.names.threads) k depth in
    OfReport report script deal own.order own.points limit printed

-- the report on the run of a seed
abbrev pub OfSeed : ℕ → ℕ → Option ℕ → ℕ → Report → ScriptText → Deal → Printed → Type 0
OfSeed seed depth steps limit report script deal printed =
    (k : ℕ) × DrawsFrom script deal limit steps k
    × OfDrawn seed depth k limit report script deal printed
