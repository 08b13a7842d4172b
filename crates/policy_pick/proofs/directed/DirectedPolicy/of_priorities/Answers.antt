use Rattle.std.proofs.Common.{◌≡◌, ◌∙◌, [], length, replicate, refl, sym, ap, arith}
use Rattle.std.proofs.lemmas.Grind.{common_steps}
use Rattle.rank_now.specs.Rank.{ranks_by_moments}
use Rattle.rank_now.proofs.laws.KnownOrders.{known_order}
use Rattle.policy_pick.proofs.Moments.{own_counts-first}
use Rattle.policy_pick.proofs.directed.DirectedPolicy.of_priorities.Goals as goal

pub of_order-requires-clause-order : goal.of_order-requires-clause-order
of_order-requires-clause-order c =
    known_order c.args.priorities.now.order.now c.args.priorities.now.is_order

pub returns-clause-stands : goal.returns-clause-stands
returns-clause-stands c =
    let order = c.in_ok-ranks.ensures.ordered in
    let moments = c.args.priorities.now.moments.now in
    let same : c.extend_from_slice.new.self.items ≡ moments = grind (arith, common_steps) in
    let own : c.resize.new.self.items ≡ replicate (length c.args.priorities.now.order.now) 0 =
    grind (arith, common_steps) in
    record {
      values =
          c.in_ok-ranks.ensures.by_moments moments refl
          ∙ ap (λ x. ranks_by_moments x moments []) (sym order)
          ∙ ap (λ x. ranks_by_moments c.in_ok-ranks.ranks.order x []) (sym same);
      own =
          own_counts-first c.in_ok-ranks.ranks.order c.resize.new.self.items
          (own ∙ ap (λ n. replicate n 0) (sym (ap length order)));
    }
