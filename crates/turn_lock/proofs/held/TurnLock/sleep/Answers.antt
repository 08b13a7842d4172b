use Rattle.std.proofs.Common.{rules, arith, ◌∙◌, ◌+◌, ◌-◌, ◌%◌, ◌^◌}
use Rattle.turn_lock.proofs.Keeps.{marks}
use Rattle.turn_lock.proofs.held.TurnLock.sleep.Goals as goal

pub fetch_add-requires : goal.fetch_add-requires
fetch_add-requires g c = (
  c.requires.of,
  search rules,
  marks _ _ _ _ (c.args.thread + 1) (λ n. (n + 4294967296) % 2 ^ 64) (omega arith),
)

pub fetch_sub-requires : goal.fetch_sub-requires
fetch_sub-requires g c = (
  c.fetch_add.ensures.0 ∙ c.requires.of,
  search rules,
  marks _ _ _ _ (c.args.thread + 1) (λ n. (n + (2 ^ 64 - 4294967296)) % 2 ^ 64) (omega arith),
)
