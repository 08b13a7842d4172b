-- How what the code keeps of an expression stands for what was read of it.
use Rattle.std.specs.Prelude.{List, map, reverse}
use Rattle.std.specs.Option.{option_map}
use Rattle.script_parse.specs.Spellings.{spelled_tree}
use Rattle.script_parse.specs.Machine as machine
use Rattle.script_parse.specs.declared.expression.OpenPart.{OpenPart}
use Rattle.script_parse.specs.declared.expression.OpenPart.TheVariants.{Paren, Not, Minus, Two}
use Rattle.script_parse.specs.declared.expression.Pending.{Pending}

abbrev pub seen_frame : OpenPart → machine.OpenPart
seen_frame Paren = machine.Paren
seen_frame Not = machine.Not
seen_frame Minus = machine.Minus
seen_frame (Two op left) = machine.Two op (spelled_tree left)

-- what waits, the innermost first
abbrev pub seen_frames : List OpenPart → List machine.OpenPart
seen_frames frames = reverse (map seen_frame frames)

abbrev pub seen_pending : Pending → machine.OpenExpression
seen_pending p =
    machine.open_expression (seen_frames p.frames.items) (option_map spelled_tree p.value)
