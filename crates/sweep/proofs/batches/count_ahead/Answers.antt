-- The choices behind the last of those that came next repeat runs that are counted.
use Rattle.std.proofs.Common.{sym, ◌∙◌, arith}
use Rattle.sweep.proofs.Passed.{passed-all}
use Rattle.sweep.proofs.batches.count_ahead.Goals as goal

pub returns-clause-counted : goal.returns-clause-counted
returns-clause-counted g c =
    passed-all _ c.run_batch.new.kept _ c.in_ok-longer.longer
    (sym c.is_some.ensures ∙ c.if-is_some.false) c.in_ok-longer.ensures
    (omega (arith, c.len-count.ensures, c.in_ok-ahead.ahead.places.ok.0))
