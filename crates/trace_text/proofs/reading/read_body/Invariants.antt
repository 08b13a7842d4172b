use Rattle.std.proofs.Common.{◌≡◌, ◌≤◌, ◌+◌, length}
use Rattle.pct_ask.specs.Pieces.{pieces_of}
use Rattle.trace_text.specs.reader.Reading.{body_of}
use Rattle.trace_text.proofs.Bodies.{with_events}
use Rattle.trace_text.proofs.reading.read_body.Given as goal

-- the steps so far, and what is left to read, are what is read of the whole
abbrev pub invariant-lines : goal.invariant-lines
invariant-lines l = record {
  same : with_events l.events (body_of l.names l.version l.limit l.next (pieces_of l.rest))
      ≡ body_of l.names l.version l.limit 1 (pieces_of l.text);
  within : l.next ≤ l.limit + 1;
  some : 1 ≤ l.next;
}

abbrev pub decreases-lines : goal.decreases-lines
decreases-lines l = length l.rest
