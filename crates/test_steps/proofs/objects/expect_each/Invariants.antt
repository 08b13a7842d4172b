use Rattle.std.proofs.Common.{◌≡◌}
use Rattle.pct_ask.specs.Objects.{sizes_of_deal}
use Rattle.sync_store.specs.Store.{sizes_of}
use Rattle.test_steps.proofs.objects.expect_each.Given as goal

abbrev pub invariant-loop-thread : goal.invariant-loop-thread
invariant-loop-thread g l = sizes_of l.store ≡ sizes_of_deal l.deal
