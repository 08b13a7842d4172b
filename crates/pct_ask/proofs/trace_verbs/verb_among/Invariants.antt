-- The verbs before this one have other words.
use Rattle.std.proofs.Common.{◌≡◌, drop}
use Rattle.pct_ask.specs.TraceVerbs.{verb_among}
use Rattle.pct_ask.proofs.trace_verbs.verb_among.Given as goal

abbrev pub invariant-loop-verb : goal.invariant-loop-verb
invariant-loop-verb l = verb_among (drop l.verb-index l.list) l.word ≡ verb_among l.list l.word
