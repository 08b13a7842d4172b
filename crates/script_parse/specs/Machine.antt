-- Reading an expression from its first token to its last, with what waits for its right part.
use Rattle.std.specs.Prelude.{ℕ, ◌==◌, nat_le, Bool, true, false, if◌then◌else◌, List, [], ◌∷◌}
use Rattle.std.specs.Prelude.{Option, Some, None, codes, pos}
use Rattle.std.specs.Option.{option_map, option_and_then}
use Rattle.std.specs.Str.{bytes_eq}
use Rattle.std.specs.Str.Parse.{digits_value}
use Rattle.pct_ask.specs.Tokens.{Token, Word, Number, Symbol}
use Rattle.script_tree.specs.declared.expr.Op.{Op}
use Rattle.script_tree.specs.declared.expr.Op.TheVariants as ops
use Rattle.script_tree.specs.Trees.{Expression}
use Rattle.script_tree.specs.Trees as trees
use Rattle.script_tree.specs.Expressions.{strength, left_level}
use Rattle.pct_ask.specs.Words.{register_in}

-- what waits for what follows: a parenthesis for its end, an operator for its part or its right
-- part
pub data OpenPart : Type 0 where
  Paren : OpenPart
  Not : OpenPart
  Minus : OpenPart
  Two : (op : Op) (left : Expression) → OpenPart

-- what was read of an expression: what waits, the innermost first, and the value that was read
-- last, if one was
pub record OpenExpression : Type 0 where
  pub frames : List OpenPart
  pub value : Option Expression

abbrev pub open_expression : List OpenPart → Option Expression → OpenExpression
open_expression frames value = record { frames = frames; value = value }

-- the operator that signs stand for
abbrev pub operator_in : List ℕ → Option Op
operator_in signs =
    if bytes_eq signs (codes "||") then Some ops.Or
    else (if bytes_eq signs (codes "&&") then Some ops.And
    else (if bytes_eq signs (codes "==") then Some ops.Eq
    else (if bytes_eq signs (codes "!=") then Some ops.Ne
    else (if bytes_eq signs (codes "<") then Some ops.Lt
    else (if bytes_eq signs (codes "<=") then Some ops.Le
    else (if bytes_eq signs (codes ">") then Some ops.Gt
    else (if bytes_eq signs (codes ">=") then Some ops.Ge
    else (if bytes_eq signs (codes "+") then Some ops.Plus
    else (if bytes_eq signs (codes "-") then Some ops.Less
    else (if bytes_eq signs (codes "*") then Some ops.Times
    else (if bytes_eq signs (codes "/") then Some ops.Over
    else (if bytes_eq signs (codes "%") then Some ops.Rest
    else None))))))))))))

-- the value with all that waits for it at this level or a stronger one
abbrev pub reduced_value : ℕ → List OpenPart → Expression → List OpenPart × Expression
reduced_value level [] value = ([], value)
reduced_value level (Paren ∷ frames) value = (Paren ∷ frames, value)
reduced_value level (Not ∷ frames) value = reduced_value level frames (trees.Not value)
reduced_value level (Minus ∷ frames) value = reduced_value level frames (trees.Minus value)
reduced_value level (Two op left ∷ frames) value =
    if nat_le level (strength op) then reduced_value level frames (trees.Two op left value)
    else (Two op left ∷ frames, value)

-- what waits takes a part of this level
abbrev pub takes_part : ℕ → OpenPart → Bool
takes_part level Paren = false
takes_part level Not = true
takes_part level Minus = true
takes_part level (Two op left) = nat_le level (strength op)

abbrev pub is_taken : ℕ → List OpenPart → Bool
is_taken level [] = false
is_taken level (frame ∷ frames) = takes_part level frame

-- what waited, with its part
abbrev pub around : OpenPart → Expression → Expression
around Paren part = part
around Not part = trees.Not part
around Minus part = trees.Minus part
around (Two op left) part = trees.Two op left part

-- a comparison waits there for its right part, where another comparison begins
abbrev pub chains : Op → List OpenPart → Bool
chains op [] = false
chains op (Two other left ∷ frames) = strength other == strength op
chains op (frame ∷ frames) = false

-- an operator after a value
abbrev pub with_operator : Op → List OpenPart × Expression → Option OpenExpression
with_operator op done =
    if chains op done.0 then None else Some (open_expression (Two op done.1 ∷ done.0) None)

-- a `)` after a value
abbrev pub with_bracket : List OpenPart → Expression → Option OpenExpression
with_bracket [] value = None
with_bracket (Paren ∷ frames) value = Some (open_expression frames (Some value))
with_bracket (frame ∷ frames) value = None

abbrev pub closed_by : List OpenPart → Expression → Option OpenExpression
closed_by frames value = let done = reduced_value 0 frames value in with_bracket done.0 done.1

-- a token where a value may begin
abbrev pub with_value_token : List OpenPart → Token → Option OpenExpression
with_value_token frames (Number digits) =
    Some (open_expression frames (Some (trees.Number (pos (digits_value 10 digits)))))
with_value_token frames (Word word) =
    option_map (λ r. open_expression frames (Some (trees.Reg r))) (register_in word)
with_value_token frames (Symbol signs) =
    if bytes_eq signs (codes "(") then Some (open_expression (Paren ∷ frames) None)
    else (if bytes_eq signs (codes "-") then Some (open_expression (Minus ∷ frames) None)
    else (if bytes_eq signs (codes "!") then Some (open_expression (Not ∷ frames) None) else None))

abbrev pub joined_by : Option Op → List OpenPart → Expression → Option OpenExpression
joined_by None frames value = None
joined_by (Some op) frames value = with_operator op (reduced_value (left_level op) frames value)

-- a token behind a value
abbrev pub behind : List OpenPart → Expression → Token → Option OpenExpression
behind frames value (Symbol signs) =
    if bytes_eq signs (codes ")") then closed_by frames value
    else joined_by (operator_in signs) frames value
behind frames value token = None

abbrev pub token_step_at : List OpenPart → Option Expression → Token → Option OpenExpression
token_step_at frames None token = with_value_token frames token
token_step_at frames (Some value) token = behind frames value token

-- one more token; None where no expression goes on with it
abbrev pub token_step : OpenExpression → Token → Option OpenExpression
token_step p token = token_step_at p.frames p.value token

abbrev pub whole : List OpenPart × Expression → Option Expression
whole ([], value) = Some value
whole (frame ∷ frames, value) = None

abbrev pub finished_at : List OpenPart → Option Expression → Option Expression
finished_at frames None = None
finished_at frames (Some value) = whole (reduced_value 0 frames value)

-- the expression, where the last token was read
abbrev pub whole_expression : OpenExpression → Option Expression
whole_expression p = finished_at p.frames p.value

abbrev pub expression_from : OpenExpression → List Token → Option Expression
expression_from p [] = whole_expression p
expression_from p (token ∷ tokens) =
    option_and_then (λ next. expression_from next tokens) (token_step p token)

-- the expression that tokens are read as
abbrev pub expression_in : List Token → Option Expression
expression_in tokens = expression_from (open_expression [] None) tokens
