-- The list is that of the declared threads.
use Rattle.std.proofs.Common.{◌<◌, ℕ, length, ap, sym, subst, ◌∙◌, arith}
use Rattle.choices.specs.Orders.{factorial}
use Rattle.choices.proofs.laws.OrderLists.{length-threads}
use Rattle.choices.proofs.orders.order_at.Goals as goal

pub arrange-requires-clause-few : goal.arrange-requires-clause-few
arrange-requires-clause-few c =
    omega (
      arith,
      ap length c.in_ok-all.ensures,
      length-threads c.args.threads,
      c.requires.few,
    )

pub arrange-requires-clause-place : goal.arrange-requires-clause-place
arrange-requires-clause-place c =
    let P : ℕ → Type 0 = λ n. c.args.place < factorial n in
    subst P (sym (ap length c.in_ok-all.ensures ∙ length-threads c.args.threads)) c.requires.place
