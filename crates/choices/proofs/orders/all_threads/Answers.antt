-- The threads come one after another.
use Rattle.std.proofs.Common.{◌≡◌, ◌+◌, ◌++◌, ◌∷◌, [], sym, ap, ◌∙◌, arith}
use Rattle.turn_book.specs.Chances.{threads_below}
use Rattle.choices.proofs.Places.{range-more}
use Rattle.choices.proofs.orders.all_threads.Goals as goal

pub loop-thread-preserved : goal.loop-thread-preserved
loop-thread-preserved c =
    let thread = c.loop-thread.thread in
    c.in_ok-push.ensures.items ∙ ap (λ items. items ++ thread ∷ []) c.loop-thread.invariant
    ∙ ap (λ t. threads_below thread ++ t ∷ []) (let e : thread ≡ 0 + thread = omega arith in e)
    ∙ sym (range-more 0 thread)
