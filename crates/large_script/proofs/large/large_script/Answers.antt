use Rattle.std.proofs.Common.{◌∙◌}
use Rattle.large_script.proofs.Simple.{is_script_of}
use Rattle.large_script.proofs.large.large_script.Goals as goal

pub invariant_of-result : goal.invariant_of-result
invariant_of-result c = record {
  sound = is_script_of c.args.many c.requires c.in_ok-names.field-0 _ _ _ _ c.in_ok-names.ensures
      (c.from_vec.ensures ∙ (c.in_ok-vars.ensures.items_if_clones_equal (λ y e. e))) c.new.ensures
      c.new-2.ensures c.in_ok-threads.ensures;
}
