use Rattle.std.proofs.Common.{◌∙◌, sym, rules}
use Rattle.choices.proofs.laws.OrderLists.{length-low-orders}
use Rattle.c_tells.proofs.orders.order_count_told.Goals as goal

pub returns-then-are_few : goal.returns-then-are_few
returns-then-are_few c = (
  c.are_few.ensures.0 (search rules),
  λ low within. c.order_count.ensures ∙ sym (length-low-orders c.args.threads low within),
)
