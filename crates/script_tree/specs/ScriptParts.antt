-- A script of the code by its parts (this project).
use Rattle.std.specs.Prelude.{ℕ, ℤ, List, map}
use Rattle.pct_ask.specs.NameLists.{NameLists}
use Rattle.script_tree.specs.ScriptText.{Thread, ScriptText}
use Rattle.script_tree.specs.Seen.{block}
use Rattle.script_tree.specs.declared.stmt.ThreadText.{ThreadText}

-- a thread of the code: its line, and its statements as trees
abbrev pub thread_text : ThreadText → Thread
thread_text t = record { line = t.line; body = block t.body }

-- a script of these parts
abbrev pub script_of_parts : ℕ → NameLists → List ℤ → List ℤ → List ℤ → List ThreadText → ScriptText
script_of_parts version names vars sems barriers threads = record {
  version = version;
  names = names;
  vars = vars;
  sems = sems;
  barriers = barriers;
  threads = map thread_text threads;
}
