use Rattle.std.proofs.Common.{◌≡◌, ◌+◌, ◌<◌, ◌^◌, ◌++◌, length}
use Rattle.script_tree.specs.Seen.{block}
use Rattle.script_tree.specs.Fitting.{counts_of}
use Rattle.script_code.specs.Operations.{operations}
use Rattle.script_code.specs.Rest.{from}
use Rattle.script_code.specs.Layout.{codes_of}
use Rattle.script_code.proofs.emit.+emit.Given as goal

abbrev pub decreases-emit_block : goal.decreases-emit_block
decreases-emit_block l = goal.size-emit_block l

abbrev pub decreases-emit_stmt : goal.decreases-emit_stmt
decreases-emit_stmt l = goal.size-emit_stmt l

-- what is emitted and what isn't yet are all
abbrev pub invariant-emit_block-loop-i : goal.invariant-emit_block-loop-i
invariant-emit_block-loop-i l = record {
  emitted : operations l.ops.items ++ codes_of (length l.ops.items) l.next (from l.body l.i)
      ≡ operations l.initial.ops.items
      ++ codes_of (length l.initial.ops.items) l.next (block l.body);
  room : length l.ops.items + counts_of (from l.body l.i) < 2 ^ 32;
}
