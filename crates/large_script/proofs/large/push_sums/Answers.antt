use Rattle.std.proofs.Common.{◌≡◌, ℕ, ◌++◌, arith, subst}
use Rattle.script_tree.specs.Seen.{statements}
use Rattle.large_script.specs.Large.{sums}
use Rattle.large_script.proofs.large.push_sums.Goals as goal

pub returns : goal.returns
returns c =
    let all : c.loop-var.var ≡ 8 = omega arith in
    subst (λ (n : ℕ). statements c.loop-var.stmts.items
    ≡ statements c.args.stmts.now.items ++ sums n) all c.loop-var.invariant
