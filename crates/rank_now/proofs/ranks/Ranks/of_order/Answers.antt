use Rattle.std.proofs.Common.{◌≡◌, ◌∙◌, List, ℕ, None, length, replicate, sym, ap, subst, arith}
use Rattle.std.proofs.lemmas.Grind.{common_steps}
use Rattle.std.proofs.lemmas.List.{length-replicate}
use Rattle.rank_now.specs.Ranking.{AreLowered, AreAbove}
use Rattle.rank_now.proofs.Holders.{distinct-values}
use Rattle.rank_now.proofs.Orders.{first-lowered}
use Rattle.rank_now.proofs.laws.GivenOnce.{ranks-first, ranks_by_moments-first}
use Rattle.rank_now.proofs.ranks.Ranks.of_order.Goals as goal

pub invariant_of-result : goal.invariant_of-result
invariant_of-result c =
    let order = c.args.order.now in
    let names : c.extend_from_slice.new.self.items ≡ order = grind (arith, common_steps) in
    let none : c.resize.new.self.items ≡ replicate c.args.count None =
    grind (arith, common_steps) in
    let P : List ℕ → Type 0 = λ o.
    AreLowered o c.in_ok-values.values.items c.resize.new.self.items in
    let Q : List ℕ → Type 0 = λ vs. AreAbove vs c.in_ok-above.above.items in (
      subst P (sym names)
          (first-lowered order c.in_ok-values.values.items c.resize.new.self.items c.args.count
          c.requires.order c.in_ok-values.ensures none c.requires.few_threads
          c.requires.few_points),
      subst Q (sym c.in_ok-values.ensures) (c.in_ok-above.ensures c.args.count),
    )

pub returns : goal.returns
returns c =
    let order = c.args.order.now in
    let names : c.extend_from_slice.new.self.items ≡ order = grind (arith, common_steps) in
    let none : c.resize.new.self.items ≡ replicate c.args.count None =
    grind (arith, common_steps) in
    let values = c.in_ok-values.values.items in
    record {
      ordered = names;
      counted = ap length none ∙ length-replicate c.args.count None;
      values = c.in_ok-values.ensures;
      distinct =
          distinct-values order values c.resize.new.self.items
          (first-lowered order values c.resize.new.self.items c.args.count c.requires.order
          c.in_ok-values.ensures none c.requires.few_threads c.requires.few_points);
      by_points = λ points same.
          ranks-first order points values c.args.count same c.in_ok-values.ensures;
      by_moments = λ moments same.
          ranks_by_moments-first order moments values c.args.count same c.in_ok-values.ensures;
    }
