use Rattle.script_parse.proofs.Printed.{layout_is_read}
use Rattle.script_parse.proofs.parsing.print_is_read.Goals as goal

pub returns : goal.returns
returns c = layout_is_read
