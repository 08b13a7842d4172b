-- `sweep`: what every choice of an order and change points leads to (this project).
use Rattle.std.specs.Prelude.{◌≡◌, ℕ, ◌-◌, ◌==◌, Bool, false, if◌then◌else◌, List, [], ◌∷◌, length}
use Rattle.std.specs.Prelude.{map, slice_get, Option, Some, codes, decimal}
use Rattle.std.specs.Option.{option_map}
use Rattle.pct_ask.specs.TraceText.{line_text}
use Rattle.pct_ask.specs.declared.Deal.{Deal}
use Rattle.script_tree.specs.ScriptText.{ScriptText}
use Rattle.script_body.specs.Bodies.{bodies_of}
use Rattle.failure_rank.specs.declared.group.Group.{Group}
use Rattle.report_text.specs.declared.frame.Frame.{Frame}
use Rattle.report_text.specs.declared.swept.SweptGroup.{SweptGroup}
use Rattle.report_text.specs.SweepText.{sweep_text_of}
use Rattle.report_text.specs.SweepJson.{sweep_json_of}
use Rattle.sweep.specs.Choices.{choices}
use Rattle.sweep.specs.Rows.{SweepSetup}
use Rattle.sweep.specs.Swept.{Sweeps}
use Rattle.sweep.specs.declared.choice.Choice.{Choice}
use Rattle.sweep.specs.declared.sweeping.Swept.{Swept}
use Rattle.sweep.specs.declared.sweeping.Answer.{Answer}
use Rattle.sweep.specs.declared.sweeping.Answer.TheVariants.{Whole, TooMany}
use Rattle.pct_top.specs.Printed.{Printed, printed_text}
use Rattle.pct_top.specs.Runs.{DrawsFrom}
use Rattle.pct_top.specs.commands.Campaign.{frame_of}

-- what the runs of a sweep of a script have in common
abbrev pub swept_setup : ScriptText → Deal → ℕ → ℕ → ℕ → SweepSetup
swept_setup script deal depth steps limit = record {
  deal = deal;
  bodies = bodies_of script;
  many = depth - 1;
  steps = steps;
  limit = limit;
}

-- all choices of the report's frame, in their order
abbrev pub choices_in : Frame → List Choice
choices_in frame = choices frame.threads frame.steps (frame.depth - 1)

-- a group as it is told: with its first choice, in place of that choice's place among all
abbrev pub told_as : Group → Choice → SweptGroup
told_as group choice = record {
  count = group.count;
  steps = group.steps;
  order = choice.order;
  points = choice.points;
  verdict = group.verdict;
}

-- a group as it is told, where its first choice is one of all
abbrev pub told_group : Frame → Group → Option SweptGroup
told_group frame group = option_map (told_as group) (slice_get (choices_in frame) group.first)

-- the groups as they are told
abbrev pub AreGroupsTold : Frame → List Group → List SweptGroup → Type 0
AreGroupsTold frame groups told = map Some told ≡ map (told_group frame) groups

-- the report as JSON or as a text
abbrev pub sweep_report : Bool → ScriptText → Frame → Swept → List SweptGroup → List ℕ
sweep_report json script frame swept told =
    if json then sweep_json_of frame swept.choices told swept.passed script.names
    else sweep_text_of frame swept.choices told swept.passed script.names

-- the line that tells of too many choices
abbrev pub too_many_text : ℕ → List ℕ
too_many_text threads = line_text (codes "toomany" ∷ decimal threads ∷ [])

-- The report on the choices is printed, and it is done where none of them fails. Where there are
-- too
-- many, a line says so.
abbrev pub PrintsAnswer : Bool → ScriptText → Frame → Answer → Printed → Type 0
PrintsAnswer json script frame (Whole swept) printed =
    (told : List SweptGroup) × AreGroupsTold frame swept.groups told
    × (printed
    ≡ printed_text (sweep_report json script frame swept told) (length swept.groups == 0))
PrintsAnswer json script frame TooMany printed =
    printed ≡ printed_text (too_many_text frame.threads) false

-- what is printed of all choices whose points are in 1..k
abbrev pub OfChoices : ℕ → ℕ → ℕ → Bool → ScriptText → Deal → Printed → Type 0
OfChoices depth k limit json script deal printed =
    (answer : Answer) × Sweeps (swept_setup script deal depth k limit) answer
    × PrintsAnswer json script (frame_of deal depth k limit) answer printed

-- The same, where k is the number of steps that is given, or else as many as the run in declared
-- order has.
abbrev pub OfSweep : ℕ → Option ℕ → ℕ → Bool → ScriptText → Deal → Printed → Type 0
OfSweep depth steps limit json script deal printed =
    (k : ℕ) × DrawsFrom script deal limit steps k
    × OfChoices depth k limit json script deal printed
