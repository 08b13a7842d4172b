-- How a script of the code stands for a script's text (this project).
use Rattle.script_tree.specs.ScriptText.{ScriptText}
use Rattle.script_tree.specs.ScriptParts.{script_of_parts}
use Rattle.script_tree.specs.declared.script.Script.{Script}

-- what a script of the code says
abbrev pub plain_script : Script → ScriptText
plain_script s = script_of_parts s.version s.names s.vars s.sems s.barriers s.threads.items
