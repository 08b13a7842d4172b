-- The policy's refusal is passed on.
use Rattle.std.proofs.lemmas.Result.{err_from_is_err_and}
use Rattle.pct_c.proofs.Making.{refused}
use Rattle.pct_c.proofs.book.Book.by_moments.Goals as goal

pub returns-in_err-policy-clause-not_an_order : goal.returns-in_err-policy-clause-not_an_order
returns-in_err-policy-clause-not_an_order c = λ at.
    let p = err_from_is_err_and c.from_residual.result c.from_residual.ensures.1 in
    rw (p.1, p.2) (refused c.args.order.now c.in_err-policy.field-0.0
    c.in_err-policy.ensures.not_an_order at)
