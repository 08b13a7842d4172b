use Rattle.std.proofs.Common.{rules}
use Rattle.turn_lock.proofs.Cuts.{looks}
use Rattle.turn_lock.proofs.held.TurnLock.look.Goals as goal

pub load-requires : goal.load-requires
load-requires g c =
    (c.requires.of, search rules, looks _ _ _ _ c.requires.idle.live c.requires.idle.held)
