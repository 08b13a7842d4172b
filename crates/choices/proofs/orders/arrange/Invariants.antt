use Rattle.std.proofs.Common.{◌≡◌, ◌<◌, ◌≤◌, ◌++◌, length}
use Rattle.choices.specs.Orders.{factorial}
use Rattle.choices.proofs.Places.{back_at}
use Rattle.choices.proofs.orders.arrange.Given as goal

-- the threads so far, from the last, and those that are left by the place among their orders
abbrev pub invariant-threads : goal.invariant-threads
invariant-threads l = record {
  made : l.order.items ++ back_at (length l.left.items) l.left.items l.rest
      ≡ back_at (length l.fn.threads.items) l.fn.threads.items l.place;
  place : l.rest < factorial (length l.left.items);
  few : length l.left.items ≤ 12;
}

abbrev pub decreases-threads : goal.decreases-threads
decreases-threads l = length l.left.items
