use Rattle.std.proofs.Common.{rules, subst}
use Rattle.turn_lock.specs.Rule.{Serves}
use Rattle.turn_lock.proofs.Cuts.{splits}
use Rattle.turn_lock.proofs.held.TurnLock.split_as.Goals as goal

pub split_seat-requires : goal.split_seat-requires
split_seat-requires g c = (
  c.requires.of,
  search rules,
  splits _ _ _ _ c.requires.idle.live c.requires.idle.held
      (subst (Serves c.args.seat.now.me.0) c.requires.which c.requires.serves),
)
