use Rattle.std.proofs.Common.{◌≡◌, ap, sym}
use Rattle.rank_now.specs.Ranking.{Ranking}
use Rattle.rank_now.proofs.Holders.{values-positive}
use Rattle.rank_now.proofs.ranks.Ranks.greatest.Goals as goal

pub returns-clause-positive : goal.returns-clause-positive
returns-clause-positive c =
    let f = c.self.inside in
    let seen : f.values.items ≡ c.args.self.now.values =
    ap (λ (r : Ranking). r.values) c.self.view_is in
    rw (sym seen) (values-positive f.order.items f.values.items f.lowered.items c.self.invariant.0)
