-- What the threads of a script's code post (this project).
use Rattle.std.specs.Prelude.{List, map}
use Rattle.pct_ask.specs.Bodies.{Pending}
use Rattle.script_code.specs.Operations.{Operation}
use Rattle.script_code.specs.FlatPosts.{flat_pending}

-- what the thread of each listing posts, after the answers that it has had
abbrev pub bodies_of_code : List (List Operation) → List Pending
bodies_of_code code = map flat_pending code
