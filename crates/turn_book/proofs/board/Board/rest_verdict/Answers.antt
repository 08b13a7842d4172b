use Rattle.std.proofs.Common.{ℕ, ◌+◌, ap, ◌∙◌}
use Rattle.std.specs.Option.{option_map}
use Rattle.turn_book.specs.Board.{next_posts_of}
use Rattle.turn_book.proofs.Boards.{none-blocked, blocked-more, blocked-same, same-blocked}
use Rattle.turn_book.proofs.board.Board.rest_verdict.Goals as goal
use Rattle.turn_book.proofs.board.Board.rest_verdict.Goals.{in-Some, in_default}

pub loop-thread-init : goal.loop-thread-init
loop-thread-init c =
    none-blocked c.self.inside.store (next_posts_of c.deref-post-items.result.now)
    c.new-blocked.result c.new-blocked.ensures

pub loop-thread-preserved : goal.loop-thread-preserved
loop-thread-preserved c =
    let store = c.self.inside.store in
    let next = next_posts_of c.deref-post-items.result.now in
    let t = c.loop-thread.thread in
    elim c.match-blocked_line.branch [
      | in-Some w ↦ same-blocked store next (t + 1) _ _ _ _ (w.blocked-is ∙ w.push.ensures)
          w.stuck-is (blocked-more store next t w.in-Some.line c.loop-thread.blocked
          c.loop-thread.stuck c.loop-thread.invariant w.in-Some.ensures)
      | in_default w ↦ same-blocked store next (t + 1) _ _ _ _ w.blocked-is w.stuck-is
          (blocked-same store next t c.loop-thread.blocked c.loop-thread.stuck
          c.loop-thread.invariant (c.blocked_line.ensures
          ∙ ap (option_map (λ (line : ℕ). (t, line))) w.in_default.is))
    ]
