use Rattle.script_tree.proofs.laws.SeenParts.{statement-IfElse}
use Rattle.script_parse.proofs.reader.Reader.closed_block.Goals as goal

pub returns-in-Else : goal.returns-in-Else
returns-in-Else c =
    let same = statement-IfElse c.in-Else.line c.in-Else.test c.in-Else.first c.args.block in
    rw c.in-Else.is (rw same at c.part_with_statement-in-Else.ensures)
