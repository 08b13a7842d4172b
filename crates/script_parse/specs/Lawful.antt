-- What a line without a fault declares, and the numbers of its expressions.
use Rattle.std.specs.Prelude.{ℤ, pos, ◌<◌, ◌^◌, Bool, true}
use Rattle.pct_ask.specs.Words.{is_name}
use Rattle.script_tree.specs.Trees.{Expression, Number, Reg, Not, Minus, Two}
use Rattle.script_tree.specs.Forms.{MeantForm, Plain, Valued, Thread, Write, Add, Cas, Assert, Set}
use Rattle.script_tree.specs.Forms.{If, While}
use Rattle.script_tree.specs.Ranges.{value_fits}

-- a name that the line declares is lawful by the first version's keywords
abbrev pub names_lawful : MeantForm → Bool
names_lawful (Plain kind name) = is_name 1 name
names_lawful (Valued kind name value) = is_name 1 name
names_lawful (Thread name) = is_name 1 name
names_lawful form = true

-- a first value that the line declares is one that an object of its kind may have
abbrev pub value_lawful : MeantForm → Bool
value_lawful (Valued kind name value) = value_fits kind value
value_lawful form = true

-- a number that isn't above the greatest i64
abbrev pub IsSmall : ℤ → Type 0
IsSmall (pos n) = n < 2 ^ 63
IsSmall n = Unit {0}

-- no number of the expression is above the greatest i64
abbrev pub HasSmallNumbers : Expression → Type 0
HasSmallNumbers (Number n) = IsSmall n
HasSmallNumbers (Reg reg) = Unit {0}
HasSmallNumbers (Not part) = HasSmallNumbers part
HasSmallNumbers (Minus part) = HasSmallNumbers part
HasSmallNumbers (Two op left right) = HasSmallNumbers left × HasSmallNumbers right

-- no number of the line's expressions is above the greatest i64
abbrev pub NumbersAreSmall : MeantForm → Type 0
NumbersAreSmall (Write var value) = HasSmallNumbers value
NumbersAreSmall (Add reg var value) = HasSmallNumbers value
NumbersAreSmall (Cas reg var old new) = HasSmallNumbers old × HasSmallNumbers new
NumbersAreSmall (Assert test) = HasSmallNumbers test
NumbersAreSmall (Set reg value) = HasSmallNumbers value
NumbersAreSmall (If test) = HasSmallNumbers test
NumbersAreSmall (While test) = HasSmallNumbers test
NumbersAreSmall form = Unit {0}
