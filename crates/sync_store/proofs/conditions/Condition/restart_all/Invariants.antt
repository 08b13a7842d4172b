use Rattle.std.proofs.Common.{◌≡◌, replicate, take}
use Rattle.sync_store.specs.Store.{new_condition}
use Rattle.sync_store.proofs.conditions.Condition.restart_all.Given as goal

abbrev pub invariant-loop-condition : goal.invariant-loop-condition
invariant-loop-condition l =
    take l.condition-index l.conditions ≡ replicate l.condition-index new_condition
