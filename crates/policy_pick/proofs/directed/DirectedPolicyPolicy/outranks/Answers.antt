use Rattle.std.proofs.Common.{◌≡◌, ◌≢◌, ◌<◌, List, ℕ, length, sym, ap, subst, arith}
use Rattle.std.specs.Prelude.{slice_index}
use Rattle.policy_pick.specs.Choice.{OutranksBy, Outranks}
use Rattle.policy_pick.specs.Kept.{MomentsKept, MomentsStand, moments_plan}
use Rattle.policy_pick.proofs.directed.DirectedPolicyPolicy.outranks.Goals as goal

pub outranks-requires : goal.outranks-requires
outranks-requires c =
    let f = c.self.inside in
    let order : f.ranks.order ≡ c.args.self.now.order =
    ap (λ (kept : MomentsKept). kept.order) c.self.view_is in
    omega (
      arith,
      ap length order,
      c.requires.1,
      c.requires.2,
      c.self.invariant.threads,
    )

pub returns : goal.returns
returns c = λ yes schedule stood.
    let f = c.self.inside in
    let t = c.args.thread in
    let values = f.ranks.values in
    let order : f.ranks.order ≡ c.args.self.now.order =
    ap (λ (kept : MomentsKept). kept.order) c.self.view_is in
    let there : t < length values =
    omega (arith, ap length order, c.requires.1, c.requires.2, c.self.invariant.threads) in
    let P : MomentsKept → Type 0 = λ kept. MomentsStand kept schedule in
    let stands = subst P (sym c.self.view_is) stood in
    let lower : OutranksBy values t c.args.others = λ other within set apart.
    let most = c.outranks.ensures.outranks.0 yes other within set in
    let unlike : slice_index values other ≢ slice_index values t = λ same.
    apart (c.outranks.ensures.distinct other t within there same) in
    omega (arith, most, unlike) in
    let V : List ℕ → Type 0 = λ ranks. OutranksBy ranks t c.args.others in
    let K : MomentsKept → Type 0 = λ kept. Outranks (moments_plan kept) schedule t c.args.others in
    subst K c.self.view_is (subst V stands.values lower)
