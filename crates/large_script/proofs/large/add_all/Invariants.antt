use Rattle.std.proofs.Common.{◌≡◌, true, drop, map}
use Rattle.large_script.specs.Large.{with_names, may_add}
use Rattle.large_script.proofs.large.add_all.Given as goal

-- the names left may be added, and make of those so far what all make of the first ones
abbrev pub invariant-loop-word : goal.invariant-loop-word
invariant-loop-word l = record {
  allowed : may_add l.kind (map (λ word. word.now) (drop l.word-index l.words)) l.names ≡ true;
  added : with_names l.kind (map (λ word. word.now) (drop l.word-index l.words)) l.names
      ≡ with_names l.kind (map (λ word. word.now) l.words) l.fn.names;
}
