use Rattle.std.proofs.Common.{◌≡◌, length}
use Rattle.script_parse.specs.Spellings.{spelled_tree as tree}
use Rattle.script_parse.specs.Machine.{reduced_value}
use Rattle.script_parse.specs.Frames.{seen_frames}
use Rattle.script_parse.proofs.expression.reduce.Given as goal

-- what is left to take makes of the value what all that waited makes of it
abbrev pub invariant-taking : goal.invariant-taking
invariant-taking l =
    reduced_value l.level (seen_frames l.frames.items) (tree l.value)
    ≡ reduced_value l.level (seen_frames l.fn.frames.items) (tree l.fn.value)

abbrev pub decreases-taking : goal.decreases-taking
decreases-taking l = length l.frames.items
