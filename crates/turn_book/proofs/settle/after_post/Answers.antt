use Rattle.std.proofs.Common.{sym, ◌∙◌}
use Rattle.policy_pick.proofs.laws.Turns.{choice-post}
use Rattle.turn_book.proofs.settle.after_post.Goals as goal

pub returns-then-goes_by_rank : goal.returns-then-goes_by_rank
returns-then-goes_by_rank g c = λ schedule later targets goes chosen.
    let was = chosen c.if-posted.true in
    sym (choice-post (g.P.Policy.plan c.args.policy.now) schedule c.args.thread was.earlier later
    (c.goes_by_rank.ensures c.if-goes_by_rank.true) was.others targets
    (sym was.chosen ∙ c.waits_for.ensures c.if-waits_for.true) (goes c.if-posted-2.true))
