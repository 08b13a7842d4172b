use Rattle.std.proofs.Common.{rules}
use Rattle.turn_lock.proofs.Keeps.{grabs}
use Rattle.turn_lock.proofs.held.TurnLock.grab.Goals as goal

pub compare_exchange-requires : goal.compare_exchange-requires
compare_exchange-requires g c = (
  c.requires.of.0,
  search rules,
  grabs _ _ _ _ _ c.requires.idle.live c.requires.idle.held
      c.requires.serves c.requires.thread,
)
