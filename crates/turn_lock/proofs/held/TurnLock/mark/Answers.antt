use Rattle.std.proofs.Common.{rules, arith, ◌+◌, ◌%◌, ◌^◌}
use Rattle.turn_lock.proofs.Keeps.{marks}
use Rattle.turn_lock.proofs.held.TurnLock.mark.Goals as goal

pub fetch_add-before-requires : goal.fetch_add-before-requires
fetch_add-before-requires g c = (
  c.requires.of,
  search rules,
  marks _ _ _ _ (c.args.word + 1) (λ n. (n + 1) % 2 ^ 64) (omega arith),
)
