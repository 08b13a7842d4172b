use Rattle.std.proofs.Common.{rules, ap}
use Rattle.turn_lock.proofs.Keeps.{opens}
use Rattle.turn_lock.proofs.held.TurnLock.unlock.Goals as goal

pub store-requires : goal.store-requires
store-requires g c = let k = c.requires.goes in (
  c.requires.of,
  search rules,
  opens _ _ _ _ _ k.0 (ap (λ l. (c.args.seat.now.me.0, l)) k.1.one)
      k.1.live k.1.held k.2,
)
