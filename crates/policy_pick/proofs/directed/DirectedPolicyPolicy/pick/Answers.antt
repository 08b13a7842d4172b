use Rattle.std.proofs.Common.{sym, subst}
use Rattle.policy_pick.specs.declared.chance.Pick.{Pick}
use Rattle.policy_pick.specs.Choice.{IsSoundPick}
use Rattle.policy_pick.specs.Kept.{moments_plan}
use Rattle.policy_pick.specs.Laws.Walks.{rank-sound}
use Rattle.policy_pick.proofs.directed.DirectedPolicyPolicy.pick.Goals as goal

pub returns-clause-sound : goal.returns-clause-sound
returns-clause-sound c =
    let P : Pick → Type 0 = IsSoundPick (moments_plan c.args.self.now) c.args.chances.now in
    subst P (sym c.pick_by_rank.ensures)
    (rank-sound (moments_plan c.args.self.now) c.self.inside.ranks.values c.args.chances.now
    c.requires.targets)
