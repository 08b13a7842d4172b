use Rattle.std.proofs.Common.{◌≡◌, replicate}
use Rattle.turn_book.proofs.board.several.Given as goal

abbrev pub invariant-loop : goal.invariant-loop
invariant-loop g l = l.items.items ≡ replicate l.counter l.fn.item
