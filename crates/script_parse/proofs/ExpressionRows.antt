-- Expressions that only strength and grouping tell apart.
use Rattle.std.proofs.Common.{◌≡◌, ℕ, List, [], ◌∷◌, Some, None, refl, sym, ◌∙◌}
use Rattle.std.specs.Prelude.{codes}
use Rattle.pct_ask.specs.Tokens.{Token, Word, Symbol}
use Rattle.script_tree.specs.declared.expr.Op.TheVariants as ops
use Rattle.script_tree.specs.Trees.{Expression, Reg, Two}
use Rattle.script_tree.specs.Expressions.{IsExpression}
use Rattle.script_parse.specs.Machine.{expression_in}
use Rattle.script_parse.proofs.Choices.{some_is}
use Rattle.script_parse.proofs.ExpressionWhole.{expression_is_read}
use Rattle.script_parse.proofs.ExpressionSound.{expression_is_spelled}

-- the tokens of r0, r1 and r2 with these signs between them
abbrev three : List ℕ → List ℕ → List Token
three first second =
    Word (codes "r0") ∷ Symbol first ∷ Word (codes "r1") ∷ Symbol second ∷ Word (codes "r2") ∷ []

-- tokens are no expression other than the one that they are read as
no_other : (tokens : List Token) (tree other : Expression) → expression_in tokens ≡ Some tree
    → (tree ≡ other → ⊥) → ¬ IsExpression tokens other
no_other tokens tree other e differs spelled =
    differs (some_is tree other (sym e ∙ expression_is_read tokens other spelled))

minus_read : expression_in (three (codes "-") (codes "-"))
    ≡ Some (Two ops.Less (Two ops.Less (Reg 0) (Reg 1)) (Reg 2))
minus_read = refl

-- r0 - r1 - r2 isn't r0 - (r1 - r2)
pub minus_groups_to_the_left : ¬ IsExpression (three (codes "-") (codes "-"))
    (Two ops.Less (Reg 0) (Two ops.Less (Reg 1) (Reg 2)))
minus_groups_to_the_left = no_other _ _ _ minus_read (λ e. cc)

or_read : expression_in (three (codes "||") (codes "&&"))
    ≡ Some (Two ops.Or (Reg 0) (Two ops.And (Reg 1) (Reg 2)))
or_read = refl

-- r0 || r1 && r2 is r0 || (r1 && r2), and isn't (r0 || r1) && r2
pub and_is_stronger : IsExpression (three (codes "||") (codes "&&"))
    (Two ops.Or (Reg 0) (Two ops.And (Reg 1) (Reg 2)))
and_is_stronger = expression_is_spelled _ _ or_read

pub or_is_weaker : ¬ IsExpression (three (codes "||") (codes "&&"))
    (Two ops.And (Two ops.Or (Reg 0) (Reg 1)) (Reg 2))
or_is_weaker = no_other _ _ _ or_read (λ e. cc)

chain_unread : expression_in (three (codes "<") (codes "<")) ≡ None
chain_unread = refl

-- r0 < r1 < r2 is no expression
pub comparisons_form_no_chain : (tree : Expression)
    → ¬ IsExpression (three (codes "<") (codes "<")) tree
comparisons_form_no_chain tree spelled =
    let both : None ≡ Some tree = sym chain_unread ∙ expression_is_read _ tree spelled in
    absurd cc
