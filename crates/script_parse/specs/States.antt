-- How what the code keeps between lines stands for what was read (this project).
use Rattle.std.specs.Prelude.{◌≡◌, ℕ, List, Option, Some, None, Result, Ok, Err}
use Rattle.script_tree.specs.ScriptText.{ScriptText}
use Rattle.script_tree.specs.ScriptSeen.{plain_script}
use Rattle.script_tree.specs.declared.script.Script.{Script}
use Rattle.script_tree.specs.declared.fault.ScriptFault.{ScriptFault}
use Rattle.script_tree.specs.Faults.{IsFault}
use Rattle.script_parse.specs.Part.{ReadPart}
use Rattle.script_parse.specs.SeenParts.{seen_reader}
use Rattle.script_parse.specs.declared.fault.ScriptError.{ScriptError}
use Rattle.script_parse.specs.declared.fault.ScriptError.TheVariants as errors
use Rattle.script_parse.specs.declared.parsing.Progress.{Progress}
use Rattle.script_parse.specs.declared.parsing.Progress.TheVariants as states
use Rattle.script_parse.specs.declared.parsing.AfterLine.{AfterLine}
use Rattle.script_parse.specs.declared.parsing.AfterLine.TheVariants as steps

abbrev pub seen_state : Progress → Option ReadPart
seen_state states.Above = None
seen_state (states.Below reader) = Some (seen_reader reader)

abbrev pub seen_step : AfterLine → Result (Option ReadPart) ScriptFault
seen_step (steps.Next state) = Ok (seen_state state)
seen_step (steps.Bad kind) = Err kind

-- Parsing gives what was read: the script, or the first fault. Want of memory says nothing of a
-- text.
abbrev pub Gives : Result Script ScriptError → Result ScriptText (ℕ × ScriptFault) → Type 0
Gives (Ok script) read = read ≡ Ok (plain_script script)
Gives (Err (errors.Bad line kind)) read = read ≡ Err (line, kind)
Gives (Err errors.NoMemory) read = Unit {0}

-- Parsing tells the first fault of the text. Want of memory says nothing of a text.
abbrev pub TellsFault : ScriptError → List ℕ → Type 0
TellsFault (errors.Bad line kind) bytes = IsFault bytes line kind
TellsFault errors.NoMemory bytes = Unit {0}
