use Rattle.std.proofs.Common.{◌≡◌, ℕ, ◌++◌, arith, subst}
use Rattle.script_tree.specs.Seen.{statements}
use Rattle.large_script.specs.Large.{joins_of}
use Rattle.large_script.proofs.large.push_joins.Goals as goal

pub returns : goal.returns
returns c =
    let all : c.loop-thread.thread ≡ 8 = omega arith in
    subst (λ (n : ℕ). statements c.loop-thread.stmts.items
    ≡ statements c.args.stmts.now.items ++ joins_of n) all c.loop-thread.invariant
