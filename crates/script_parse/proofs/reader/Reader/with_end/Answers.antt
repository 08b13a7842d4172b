use Rattle.script_tree.proofs.laws.SeenParts.{block-parts}
use Rattle.script_parse.proofs.BlockLists.{popped}
use Rattle.script_parse.proofs.reader.Reader.with_end.Goals as goal

pub returns : goal.returns
returns c =
    let cut = popped c.args.self.open_blocks.items c.pop.new.self.items c.in-Some.block
    c.in-Some.ensures.items in
    rw cut (rw block-parts at c.closed_block.ensures)
