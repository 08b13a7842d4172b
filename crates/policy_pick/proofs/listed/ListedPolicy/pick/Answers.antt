use Rattle.std.proofs.Common.{sym, subst}
use Rattle.policy_pick.specs.declared.chance.Pick.{Pick}
use Rattle.policy_pick.specs.Choice.{IsSoundPick}
use Rattle.policy_pick.specs.Kept.{list_plan}
use Rattle.policy_pick.specs.Laws.Walks.{number-sound}
use Rattle.policy_pick.proofs.listed.ListedPolicy.pick.Goals as goal

pub returns-in-None-clause-sound : goal.returns-in-None-clause-sound
returns-in-None-clause-sound c =
    let P : Pick → Type 0 = IsSoundPick (list_plan c.args.self.now) c.args.chances.now in
    subst P (sym c.pick_by_number.ensures)
    (number-sound (list_plan c.args.self.now) c.args.chances.now tt c.requires.targets)
