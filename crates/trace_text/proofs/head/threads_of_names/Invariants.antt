use Rattle.std.proofs.Common.{◌≡◌, length}
use Rattle.trace_text.specs.reader.Heads.{threads_of_names}
use Rattle.pct_ask.specs.Pieces.{seen}
use Rattle.trace_text.proofs.HeadWords.{fronted}
use Rattle.trace_text.proofs.head.threads_of_names.Given as goal

-- the threads so far and those of the rest are those of the words
abbrev pub invariant-loop-rest : goal.invariant-loop-rest
invariant-loop-rest l =
    fronted l.order (threads_of_names l.names (seen l.rest))
    ≡ threads_of_names l.names (seen l.words)

abbrev pub decreases-loop-rest : goal.decreases-loop-rest
decreases-loop-rest l = length l.rest
