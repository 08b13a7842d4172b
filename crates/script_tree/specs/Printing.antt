-- What has been printed, and that its numbers are those of the code (this project).
use Rattle.std.specs.Prelude.{ℕ, pos, ◌^◌, ◌&&◌, Bool, true, false, int_lt, List, map}
use Rattle.std.specs.List.{list_all}
use Rattle.pct_ask.specs.Lines.{text_of_lines}
use Rattle.script_tree.specs.Trees.{Expression, Number, Reg, Not, Minus, Two, Statement}
use Rattle.script_tree.specs.Trees as trees
use Rattle.script_tree.specs.Forms.{MeantForm, Write, Add, Cas, Assert, Set, If, While}
use Rattle.script_tree.specs.Grammar.{Line}
use Rattle.script_tree.specs.Layout.{form_text, meanings}

-- the text of lines
abbrev pub printed_lines : List Line → List ℕ
printed_lines lines = text_of_lines (map form_text (meanings lines))

-- the expression's numbers are below 2^63
abbrev pub is_ranged : Expression → Bool
is_ranged (Number n) = int_lt n (pos (2 ^ 63))
is_ranged (Reg reg) = true
is_ranged (Not a) = is_ranged a
is_ranged (Minus a) = is_ranged a
is_ranged (Two op a b) = is_ranged a && is_ranged b

-- the numbers in the form's expressions are below 2^63
abbrev pub is_ranged_form : MeantForm → Bool
is_ranged_form (Write var value) = is_ranged value
is_ranged_form (Add register var value) = is_ranged value
is_ranged_form (Cas register var old new) = is_ranged old && is_ranged new
is_ranged_form (Assert test) = is_ranged test
is_ranged_form (Set register value) = is_ranged value
is_ranged_form (If test) = is_ranged test
is_ranged_form (While test) = is_ranged test
is_ranged_form form = true

-- the numbers of these lines are
abbrev pub are_ranged : List Line → Bool
are_ranged lines = list_all is_ranged_form (meanings lines)

-- The statement names one object or thread, and a register at most beside it.
abbrev pub names_one : Statement → Bool
names_one (trees.Write line var value) = false
names_one (trees.Add line reg var value) = false
names_one (trees.Cas line reg var old new) = false
names_one (trees.Wait line cond mutex) = false
names_one (trees.Yield line) = false
names_one (trees.Assert line test) = false
names_one (trees.Set line reg value) = false
names_one (trees.If line test then) = false
names_one (trees.IfElse line test then otherwise) = false
names_one (trees.While line test body) = false
names_one statement = true
