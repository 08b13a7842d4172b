-- The book that is given back is the kit's.
use Rattle.turn_lock.specs.Calls.{first_book}
use Rattle.kit_runs.proofs.running.play.Goals as goal

pub returns : goal.returns
returns g c = c.whole_of.ensures (first_book c.args.kit) c.close.ensures.making
