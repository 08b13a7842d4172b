use Rattle.std.proofs.Common.{ℕ, List, IfOk, subst}
use Rattle.kit_directives.specs.Finding.{Finds}
use Rattle.kit_directives.proofs.finding.find.Goals as goal

pub returns : goal.returns
returns g c =
    let P : List ℕ × List ℕ → Type 0 = λ x. IfOk c.find_of.result (Finds c.args.deal.now x.0 x.1
    c.args.header.now.limit) in
    subst P (λ i. (c.as_slice-order.ensures i, c.as_slice-points.ensures i)) c.find_of.ensures
