use Rattle.std.proofs.Common.{Ok}
use Rattle.std.proofs.lemmas.Result.{err_from_is_err_and}
use Rattle.script_tree.specs.Layout.{layout}
use Rattle.large_script.specs.Large.{large_script}
use Rattle.pct_top.specs.commands.Big.{OfBig}
use Rattle.pct_top.proofs.Comes.{given_untested, given_tested}
use Rattle.pct_top.proofs.commands.big.big_output.Goals as goal

pub returns-in_err-test : goal.returns-in_err-test
returns-in_err-test g c =
    let p = err_from_is_err_and c.from_residual.result c.from_residual.ensures.1 in
    rw (p.1, p.2) (given_untested (layout (large_script c.args.pieces)) (OfBig c.args.pieces)
    c.in_err-test.field-0.0 c.in_err-test.ensures)

pub returns : goal.returns
returns g c =
    given_tested (layout (large_script c.args.pieces)) (OfBig c.args.pieces) c.in_ok-test.test
    c.in_ok-test.ensures (Ok c.in_ok-big_of.field-0) c.in_ok-big_of.ensures
