use Rattle.std.proofs.Common.{◌≡◌, ◌≤◌, ◌+◌, length}
use Rattle.pct_ask.specs.Pieces.{pieces_of}
use Rattle.directive.specs.Reading.{body_of}
use Rattle.directive.proofs.Bodies.{with_moments}
use Rattle.directive.proofs.reading.read_body.Given as goal

-- the moments so far, and what is left to read, are what is read of the whole
abbrev pub invariant-lines : goal.invariant-lines
invariant-lines l = record {
  same : with_moments l.events (body_of l.names l.line (pieces_of l.rest))
      ≡ body_of l.names 3 (pieces_of l.text);
  count : length l.events + 3 ≡ l.line;
  few : l.line ≤ 10;
}

abbrev pub decreases-lines : goal.decreases-lines
decreases-lines l = length l.rest
