use Rattle.std.proofs.Common.{◌≡◌, ◌<◌, Some, None, length, ap, subst, ◌∙◌, arith, vec_capacity}
use Rattle.std.proofs.lemmas.Bool.{ltb-true}
use Rattle.policy_pick.specs.declared.chance.Pick.TheVariants.{Waits}
use Rattle.policy_pick.specs.Plan.{GoesByRank}
use Rattle.turn_book.specs.Told.{BookState, choice_of}
use Rattle.turn_book.proofs.Books.{choice-next, none-from}
use Rattle.turn_book.proofs.book.TurnBook.waits_by_rank.Goals as goal

pub returns-then-goes_by_rank : goal.returns-then-goes_by_rank
returns-then-goes_by_rank g c = λ short.
    let f = c.self.inside in
    let plan = g.P.Policy.plan f.policy in
    let running : f.outcome ≡ None = none-from f.outcome c.if-is_none.ensures in
    let long : c.len.result ≡ length f.trace.items = c.len.ensures ∙ f.trace.ok.0 in
    let less : c.len.result < f.limit = ltb-true c.len.result f.limit short in
    let P : BookState → Type 0 = λ b. (b.outcome ≡ None)
    × (choice_of b ≡ Some (Waits c.args.thread)) × GoesByRank b.plan
    × (length b.trace < b.limit) in
    subst P c.self.view_is (
      running,
      choice-next f.deal f.limit plan f.board f.trace.items f.next f.outcome
          (vec_capacity f.trace) c.self.invariant.0 running
          ∙ ap Some (c.waits_for.ensures c.if-waits_for.true),
      c.goes_by_rank.ensures c.if-goes_by_rank.true,
      omega (arith, long, less),
    )
