use Rattle.std.proofs.Common.{◌∙◌}
use Rattle.script_parse.specs.Seen.{all_seen}
use Rattle.script_parse.proofs.Great.{great_seen, great_other}
use Rattle.script_parse.proofs.range.is_out_of_range.Goals as goal

pub returns-in_default : goal.returns-in_default
returns-in_default c =
    c.has_great.ensures ∙ great_seen c.args.tokens.now
    ∙ great_other (all_seen c.args.tokens.now) c.args.form.now c.in_default.not-Valued
