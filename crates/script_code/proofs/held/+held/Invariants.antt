use Rattle.std.proofs.Common.{◌≡◌, ℕ, ◌<◌, ◌||◌, false, length}
use Rattle.std.specs.Prelude.{slice_index_or}
use Rattle.script_tree.specs.Seen.{block}
use Rattle.script_tree.specs.Posts.{any_starts}
use Rattle.script_code.specs.Rest.{from}
use Rattle.script_code.proofs.held.+held.Given as goal

abbrev pub decreases-mark_started : goal.decreases-mark_started
decreases-mark_started l = goal.size-mark_started l

abbrev pub decreases-mark_all_started : goal.decreases-mark_all_started
decreases-mark_all_started l = goal.size-mark_all_started l

-- what is marked, and what isn't yet, are all
abbrev pub invariant-mark_all_started-loop-stmt : goal.invariant-mark_all_started-loop-stmt
invariant-mark_all_started-loop-stmt l = (t : ℕ) → t < length l.initial.held
    → (slice_index_or l.held t false || any_starts t (from l.body l.stmt-index))
    ≡ (slice_index_or l.initial.held t false || any_starts t (block l.body))
