use Rattle.script_tree.proofs.laws.SeenParts.{block-parts}
use Rattle.script_parse.proofs.BlockLists.{popped}
use Rattle.script_parse.proofs.reader.Reader.with_else.Goals as goal

pub returns-in-If : goal.returns-in-If
returns-in-If c =
    let cut = popped c.args.self.open_blocks.items c.pop.new.self.items c.in-Some.block
    c.in-Some.ensures.items in
    rw (cut, c.in-If.is) (rw block-parts at c.with_block.ensures)
