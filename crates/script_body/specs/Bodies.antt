-- The bodies of a script's threads, as what they post, and code and a deal that belong to a script
-- (this project).
use Rattle.std.specs.Prelude.{List, length, map}
use Rattle.std.specs.List.{range_with_len}
use Rattle.pct_ask.specs.declared.Deal.{Deal}
use Rattle.pct_ask.specs.Bodies.{Pending}
use Rattle.script_tree.specs.ScriptText.{ScriptText}
use Rattle.script_tree.specs.Fitting.{IsScript}
use Rattle.script_tree.specs.DealOf.{IsDealOf}
use Rattle.script_tree.specs.Posts.{pending}
use Rattle.script_code.specs.Operations.{Operation}
use Rattle.script_code.specs.CodeOf.{IsCodeOf}

-- what each thread of the script posts, after the answers that it has had
abbrev pub bodies_of : ScriptText → List Pending
bodies_of script = map (pending script) (range_with_len 0 (length script.threads))

-- code and a deal that are those of a sound script
pub record AreOf (script : ScriptText) (code : List (List Operation)) (deal : Deal) : Type 0 where
  pub sound : IsScript script
  pub is_code : IsCodeOf script code
  pub is_deal : IsDealOf script deal
