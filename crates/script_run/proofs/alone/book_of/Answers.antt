-- The book is new, by the policy of the place.
use Rattle.std.proofs.Common.{◌∙◌}
use Rattle.script_run.proofs.Sets.{set-first}
use Rattle.script_run.proofs.alone.book_of.Goals as goal

pub returns : goal.returns
returns g c =
    let common = g.T.Batch.common c.args.batch.now in
    set-first common (g.T.Batch.is_run c.args.batch.now c.args.place) c.in_ok-deal.deal
    c.limit.result (g.T.Policy.Policy.plan c.in_ok-policy.policy) c.new_in.result
    (c.in_ok-deal.ensures ∙ c.script.ensures.deal) c.limit.ensures
    c.in_ok-policy.ensures.plan c.new_in.ensures.made
