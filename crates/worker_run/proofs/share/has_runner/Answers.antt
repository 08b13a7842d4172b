use Rattle.std.proofs.Common.{sym, ◌∙◌, arith}
use Rattle.worker_run.proofs.Shares.{some-at}
use Rattle.worker_run.proofs.share.has_runner.Goals as goal

pub returns-then-is_some-clause-some : goal.returns-then-is_some-clause-some
returns-then-is_some-clause-some g c =
    λ t. some-at c.args.runners.now c.loop-at.at c.index-runners-at.result
    (omega (arith, c.loop-at-test.true)) c.index-runners-at.is
    (sym c.is_some.ensures ∙ c.if-is_some.true)
