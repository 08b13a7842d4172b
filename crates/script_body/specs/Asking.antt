-- An ask by a value (this project).
use Rattle.std.specs.Prelude.{ℤ, Ok, Err}
use Rattle.pct_ask.specs.declared.ask.Ask.{Ask}
use Rattle.pct_ask.specs.declared.ask.Ask.TheVariants.{Fault}
use Rattle.script_tree.specs.Values.{Value}

-- or the fault that the value is
abbrev pub ask_by_value : Value → (ℤ → Ask) → Ask
ask_by_value (Ok n) ask = ask n
ask_by_value (Err kind) ask = Fault kind
