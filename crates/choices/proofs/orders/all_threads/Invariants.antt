use Rattle.std.proofs.Common.{◌≡◌}
use Rattle.turn_book.specs.Chances.{threads_below}
use Rattle.choices.proofs.orders.all_threads.Given as goal

abbrev pub invariant-loop-thread : goal.invariant-loop-thread
invariant-loop-thread l = l.all.items ≡ threads_below l.thread
