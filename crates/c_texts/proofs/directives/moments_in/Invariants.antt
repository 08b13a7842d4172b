use Rattle.std.proofs.Common.{◌≡◌, length, take, map}
use Rattle.c_values.specs.Moments.{moment_numbers}
use Rattle.c_texts.proofs.directives.moments_in.Given as goal

abbrev pub invariant-loop-place : goal.invariant-loop-place
invariant-loop-place l = record {
  long : length l.numbers ≡ 7;
  same : take l.place l.numbers ≡ map moment_numbers (take l.place l.moments);
}
