-- What parsing tells of a text, by what was read.
use Rattle.std.proofs.Common.{◌≡◌, ℕ, List, Result, Ok, Err, sym, ◌∙◌}
use Rattle.std.specs.Prelude.{IfOk, IfErr}
use Rattle.script_tree.specs.ScriptText.{ScriptText}
use Rattle.script_tree.specs.ScriptSeen.{plain_script}
use Rattle.script_tree.specs.declared.script.Script.{Script}
use Rattle.script_tree.specs.Grammar.{Spells}
use Rattle.script_parse.specs.Reading.{read_as_script}
use Rattle.script_parse.specs.States.{Gives, TellsFault}
use Rattle.script_parse.specs.declared.fault.ScriptError.{ScriptError}
use Rattle.script_parse.specs.declared.fault.ScriptError.TheVariants as errors
use Rattle.script_parse.proofs.TextFaults.{ok_is}
use Rattle.script_parse.proofs.FaultLaws.{fault_found}
use Rattle.script_parse.proofs.Spelled.{read_is_spelled}
use Rattle.script_parse.proofs.WholeText.{spelled_is_read}

pub found_is : (bytes : List ℕ) (r : Result Script ScriptError) → Gives r (read_as_script bytes)
    → IfOk r (λ script. Spells bytes (plain_script script))
found_is bytes (Ok script) g = read_is_spelled bytes (plain_script script) g
found_is bytes (Err error) g = tt

pub only_is : (bytes : List ℕ) (r : Result Script ScriptError)
    → Gives r (read_as_script bytes) → (script : ScriptText) → Spells bytes script
    → IfOk r (λ s. plain_script s ≡ script)
only_is bytes (Ok s) g script spells = ok_is (sym g ∙ spelled_is_read bytes script spells)
only_is bytes (Err error) g script spells = tt

pub fault_is : (bytes : List ℕ) (r : Result Script ScriptError)
    → Gives r (read_as_script bytes) → IfErr r (λ error. TellsFault error bytes)
fault_is bytes (Ok script) g = tt
fault_is bytes (Err (errors.Bad line kind)) g = fault_found bytes line kind g
fault_is bytes (Err errors.NoMemory) g = tt
