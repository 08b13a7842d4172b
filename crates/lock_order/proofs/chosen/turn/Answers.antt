use Rattle.lock_order.proofs.Walks.{ring-is}
use Rattle.lock_order.proofs.chosen.turn.Goals as goal

pub returns : goal.returns
returns c =
    ring-is c.args.part.now c.reverse.new.self c.rotate_left.new.self c.lowest_place-lowest.result
    c.reverse.ensures.after c.rotate_left.ensures.after c.lowest_place-lowest.ensures.within
    c.lowest_place-lowest.ensures.lowest
