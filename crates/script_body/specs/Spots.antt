-- Where a body stands in its thread's code (this project).
use Rattle.script_code.specs.FlatPosts.{Spot}
use Rattle.script_body.specs.declared.state.State.{State}

-- the place, the numbers and how far it is with a `wait` or `arrive`, as the body's state has them
abbrev pub spot_of : State → Spot
spot_of s = record { place = s.place; registers = s.registers; halfway = s.halfway }
