use Rattle.std.proofs.Common.{sym}
use Rattle.large_script.proofs.Shortness.{layout_lines}
use Rattle.large_script.proofs.large.line_count.Goals as goal

pub returns : goal.returns
returns c = sym (layout_lines c.args.many c.requires)
