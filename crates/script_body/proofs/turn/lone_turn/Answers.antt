use Rattle.std.proofs.Common.{◌≡◌, ◌&&◌, true, ap, subst, ◌∙◌}
use Rattle.std.proofs.lemmas.Bool.{and_parts}
use Rattle.script_tree.specs.Seen.{expression, statement}
use Rattle.script_tree.specs.Fitting.{reg_fits, expression_fits}
use Rattle.script_tree.proofs.laws.SeenParts.{statement-Cas}
use Rattle.script_code.specs.Placed.{is_lone}
use Rattle.script_body.proofs.turn.lone_turn.Goals as goal

pub value_of-requires-in-Cas-2 : goal.value_of-requires-in-Cas-2
value_of-requires-in-Cas-2 c =
    let a = c.in-Cas in
    let s = ap statement a.is ∙ statement-Cas a.line a.reg a.var a.old a.new in
    (and_parts (reg_fits a.reg && expression_fits (expression a.old))
    (expression_fits (expression a.new)) (subst (λ x. is_lone x ≡ true) s c.requires)).1
