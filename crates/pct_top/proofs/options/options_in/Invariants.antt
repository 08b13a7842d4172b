use Rattle.std.proofs.Common.{◌≡◌, ◌≤◌, ◌+◌, ◌*◌, length}
use Rattle.pct_outside.specs.Reading.{texts_of}
use Rattle.pct_top.specs.Options as options
use Rattle.pct_top.proofs.options.options_in.Given as goal

abbrev pub invariant-loop-word : goal.invariant-loop-word
invariant-loop-word l = record {
  given : options.options_from l.command l.options l.number (texts_of l.rest)
      ≡ options.options_from l.command options.no_options l.first (texts_of l.words);
  counted : l.number ≤ 4 + 2 * options.option_count l.options;
  place : l.number + length l.rest ≡ length l.words + l.first;
}

abbrev pub decreases-loop-word : goal.decreases-loop-word
decreases-loop-word l = length l.rest
