use Rattle.std.proofs.Common.{arith, ℕ, replicate, false, length, sym, ap, ◌∙◌}
use Rattle.std.proofs.lemmas.List.{length-replicate}
use Rattle.pct_ask.specs.Objects.{Sizes}
use Rattle.turn_book.proofs.Boards.{new-board}
use Rattle.turn_book.proofs.Joined.{nothing-noted}
use Rattle.turn_book.proofs.Waiters.{nobody-waits}
use Rattle.turn_book.proofs.Lockers.{nobody-locks}
use Rattle.turn_book.proofs.board.Board.new.Goals as goal

pub invariant_of-result : goal.invariant_of-result
invariant_of-result c =
    let store = c.in_ok-new.field-0 in
    let posts = c.in_ok-several.field-0.items in
    let stands = c.in_ok-several-2.field-0.items in
    let known = c.in_ok-several-3.field-0.items in
    let none = c.in_ok-several.ensures in
    let away = c.in_ok-several-2.ensures in
    let chances = c.in_ok-several-3.ensures in
    let deal = c.args.deal.now in
    let first = c.in_ok-new.ensures.first in
    let empty : ℕ = 0 in
    let lockers = c.in_ok-several-4.field-0.items in
    let zeros = c.in_ok-several-4.ensures in
    record {
      board = new-board deal store posts stands known 0 first none away chances;
      noted = nothing-noted deal.threads posts (replicate 64 false) none;
      waiting = nobody-waits store.threads deal.threads posts none;
      mutexes = ap length zeros ∙ length-replicate deal.mutexes empty
          ∙ sym (ap (λ (s : Sizes). s.mutexes) c.in_ok-new.ensures.sizes);
      few_mutexes = omega (
        arith,
        ap length zeros,
        length-replicate deal.mutexes empty,
        deal.few_mutexes,
      );
      locking = nobody-locks deal.threads deal.mutexes posts lockers none zeros;
    }
