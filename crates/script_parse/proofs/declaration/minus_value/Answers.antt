use Rattle.std.proofs.Common.{sym, ◌∙◌}
use Rattle.script_parse.proofs.FirstValues.{minus_is}
use Rattle.script_parse.proofs.declaration.minus_value.Goals as goal

pub returns-then-is_minus : goal.returns-then-is_minus
returns-then-is_minus c =
    minus_is c.args.kind c.args.signs.now c.args.digits.now
    (sym c.is_minus.ensures ∙ c.if-is_minus.true)
