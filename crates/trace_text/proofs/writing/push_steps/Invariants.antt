use Rattle.std.specs.Prelude.{All}
use Rattle.std.proofs.Common.{◌≡◌, ◌++◌, take}
use Rattle.std.specs.List.{flat_map}
use Rattle.pct_ask.specs.TraceText.{step_lines, line_text}
use Rattle.trace_text.specs.Lawful.{IsStep}
use Rattle.trace_text.proofs.writing.push_steps.Given as goal

abbrev pub invariant-loop-index : goal.invariant-loop-index
invariant-loop-index l = record {
  lawful : All (IsStep l.names l.version) (take l.index l.events);
  text : l.out.items ≡ l.fn.out.items
      ++ flat_map line_text (step_lines l.names 1 (take l.index l.events));
}
