-- How what the code keeps of a script stands for what was read of it.
use Rattle.std.specs.Prelude.{List, map, reverse}
use Rattle.script_tree.specs.Seen.{expression, block, statements}
use Rattle.script_tree.specs.ScriptParts.{thread_text}
use Rattle.script_parse.specs.Part as parts
use Rattle.script_parse.specs.declared.blocks.Opening.{Opening}
use Rattle.script_parse.specs.declared.blocks.Opening.TheVariants.{Thread, If, Else, While}
use Rattle.script_parse.specs.declared.blocks.OpenBlock.{OpenBlock}
use Rattle.script_parse.specs.declared.reader.Reader.{Reader}

abbrev pub seen_opening : Opening → parts.Opening
seen_opening (Thread line) = parts.Thread line
seen_opening (If line test) = parts.If line (expression test)
seen_opening (Else line test first) = parts.Else line (expression test) (block first)
seen_opening (While line test) = parts.While line (expression test)

abbrev pub seen_block : OpenBlock → parts.Open
seen_block b = record { opening = seen_opening b.opening; done = statements b.stmts.items }

-- the open blocks, the innermost first
abbrev pub seen_blocks : List OpenBlock → List parts.Open
seen_blocks blocks = reverse (map seen_block blocks)

abbrev pub seen_reader : Reader → parts.ReadPart
seen_reader r = record {
  version = r.version;
  names = r.names;
  vars = r.vars;
  sems = r.sems;
  barriers = r.barriers;
  threads = map thread_text r.threads.items;
  open_blocks = seen_blocks r.open_blocks.items;
}
