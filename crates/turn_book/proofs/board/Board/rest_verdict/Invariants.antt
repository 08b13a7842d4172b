use Rattle.turn_book.specs.Board.{next_posts_of}
use Rattle.turn_book.proofs.Boards.{IsBlockedBelow}
use Rattle.turn_book.proofs.board.Board.rest_verdict.Given as goal

abbrev pub invariant-loop-thread : goal.invariant-loop-thread
invariant-loop-thread l =
    IsBlockedBelow l.self-inside.store (next_posts_of l.post-items) l.thread l.blocked l.stuck
