use Rattle.std.proofs.Common.{◌≡◌, replicate}
use Rattle.sync_store.specs.Store.{new_condition}
use Rattle.sync_store.proofs.conditions.Condition.several.Given as goal

abbrev pub invariant-loop : goal.invariant-loop
invariant-loop l = l.conditions.items ≡ replicate l.counter new_condition
